-- From t on each entry counts the values with more bits, and the next one down adds those of width t.
use Rattle.std.proofs.Common.{◌≡◌, ℕ, ◌-◌, ◌*◌, ◌^◌, ◌≤◌, List, length, get_or}
use Rattle.codes.specs.Codes.{rest}
use Rattle.codes.specs.Measure.{Tallied}
use Rattle.codes.proofs.measuring.Counts.sums.Given as goal

abbrev pub invariant-loop-t : goal.invariant-loop-t
invariant-loop-t l =
    (length l.over ≡ 33) × (get_or l.over l.t 0 ≤ (32 - l.t) * 2 ^ 32)
    × ((vs : List ℕ) → Tallied vs l.self → (u : ℕ) → l.t ≤ u → u ≤ 32 → get_or l.over u 0 ≡ length (rest u vs))
