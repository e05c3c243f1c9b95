-- The best so far is that of the chunked codes below b.
use Rattle.std.proofs.Common.{◌≡◌, ℕ, ◌-◌, List, length}
use Rattle.codes.specs.Choice.{best_chunked}
use Rattle.codes.specs.Measure.{Measured}
use Rattle.codes.proofs.choosing.Widths.best_chunked.Given as goal

abbrev pub invariant-loop-b : goal.invariant-loop-b
invariant-loop-b l =
    (vs : List ℕ) → Measured vs l.self.over → length vs ≡ l.self.count → l.best ≡ best_chunked (l.b - 2) vs
