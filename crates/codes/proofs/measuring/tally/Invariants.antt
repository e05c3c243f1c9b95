-- After i turns each entry is the tally of the first i values; it is at most i, so one more fits.
use Rattle.std.proofs.Common.{◌≡◌, ℕ, get_or, take}
use Rattle.codes.specs.Measure.{tally}
use Rattle.codes.proofs.measuring.tally.Given as goal

abbrev pub invariant-loop-v : goal.invariant-loop-v
invariant-loop-v l = (z : ℕ) → get_or l.counts z 0 ≡ tally z (take l.v-index l.values)
