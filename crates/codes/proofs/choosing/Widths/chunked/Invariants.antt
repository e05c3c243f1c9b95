-- What the chunks counted take and the code of the values from bit s on make the whole.
use Rattle.std.proofs.Common.{◌≡◌, ℕ, ◌+◌, ◌*◌, ◌^◌, ◌<◌, ◌≤◌, List, length}
use Rattle.codes.specs.Codes.{rest, chunked}
use Rattle.codes.specs.Measure.{Measured}
use Rattle.codes.proofs.choosing.Widths.chunked.Given as goal

abbrev pub invariant-loop-s : goal.invariant-loop-s
invariant-loop-s l =
    (1 ≤ l.s) × (l.s < 32) × (l.chunks ≤ l.s * 2 ^ 32)
    × ((vs : List ℕ) → Measured vs l.self.over → length vs ≡ l.self.count → l.chunks * (l.b + 1) + length (chunked l.b (rest l.s vs)) ≡ length (chunked l.b vs))
