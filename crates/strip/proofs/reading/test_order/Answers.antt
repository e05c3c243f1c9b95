-- A list is ordered just where its first lower position is its length.
use native.Mathlib.Omega.{arith}
use mathlib.Core.Path.{ap}
use Rattle.tree.specs.Outcomes.{refuses, test}
use Rattle.strip.proofs.Gaps.{not-ordered, is-ordered}
use Rattle.strip.proofs.reading.test_order.Goals as goal

pub returns-then-lower-times : goal.returns-then-lower-times
unfolding test
returns-then-lower-times c = rw (not-ordered c.args.times.now (omega arith)) (ap (refuses 11) c.first_lower-lower.ensures)

pub returns : goal.returns
unfolding test
returns c = rw (is-ordered c.args.times.now (omega arith))
