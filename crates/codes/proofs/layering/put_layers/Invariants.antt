-- What is written and the code of the values left make the whole code; the values left, with their sum, get less.
use Rattle.std.proofs.Common.{◌≡◌, ℕ, ◌+◌, ◌≤◌, List, ◌++◌, length, take}
use Rattle.codes.specs.Bits.{sum}
use Rattle.codes.specs.Codes.{chunked, Within}
use Rattle.codes.specs.Written.{Wrote}
use Rattle.codes.proofs.layering.put_layers.Given as goal

abbrev pub invariant-loop-left : goal.invariant-loop-left
invariant-loop-left l =
    (bs : List ℕ) × (l.left ≤ length l.values) × Within 32 (take l.left l.values) × Wrote l.initial.out l.initial.p l.out l.p bs
    × (bs ++ chunked l.b (take l.left l.values) ≡ chunked l.b l.initial.values)

abbrev pub decreases-loop-left : goal.decreases-loop-left
decreases-loop-left l = l.left + sum (take l.left l.values)
