-- Before each turn the lowest chunks of the first i values are written and what these values have above stands at the front; the values
-- from i on are as they were.
use Rattle.std.proofs.Common.{◌≡◌, ◌-◌, ◌≤◌, take, drop}
use Rattle.codes.specs.Bits.{fixed}
use Rattle.codes.specs.Codes.{rest}
use Rattle.codes.specs.Written.{Wrote}
use Rattle.codes.proofs.layering.put_chunks.Given as goal

abbrev pub invariant-loop-i : goal.invariant-loop-i
invariant-loop-i l =
    (l.left ≤ l.i) × (l.i ≤ l.n) × (drop l.i l.values ≡ drop l.i l.initial.values) × (take l.left l.values ≡ rest l.b (take l.i l.initial.values))
    × Wrote l.initial.out l.initial.writer l.out l.writer (fixed l.b (take l.i l.initial.values))

abbrev pub decreases-loop-i : goal.decreases-loop-i
decreases-loop-i l = l.n - l.i
