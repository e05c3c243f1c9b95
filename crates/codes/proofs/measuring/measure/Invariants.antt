-- The arrays together have the tallies of the values over a whole number of fours and of the fours passed.
use Rattle.std.proofs.Common.{◌≡◌, ℕ, ◌+◌, ◌*◌, ◌/◌, length, take, drop}
use Rattle.codes.specs.Measure.{tally, counted}
use Rattle.codes.proofs.measuring.measure.Given as goal

abbrev pub invariant-loop-a : goal.invariant-loop-a
invariant-loop-a l =
    (z : ℕ) → counted l.counts z ≡ tally z (drop (length l.values / 4 * 4) l.values) + tally z (take (l.a-index * 4) l.values)
