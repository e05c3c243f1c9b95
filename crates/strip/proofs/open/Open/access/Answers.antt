-- From position n on the refusal is 14. Before it the answer is that of the tree's access.
use native.Mathlib.Omega.{arith}
use mathlib.Core.Path.{sym}
use borrow.Author.Tests.{lt-leb, le-leb}
use Rattle.tree.specs.Outcomes.{test}
use Rattle.strip.proofs.Exits.{walk-refused, walk-given}
use Rattle.strip.proofs.open.Open.access.Goals as goal

pub returns-then-i-self : goal.returns-then-i-self
unfolding test
returns-then-i-self c = sym (rw (le-leb c.args.self.now.tree.levels.pins c.args.i (omega arith)))

pub returns-in_err-access : goal.returns-in_err-access
unfolding test
returns-in_err-access c =
    rw (lt-leb c.args.self.now.tree.levels.pins c.args.i (omega arith)) (walk-refused _ _ _ c.access.ensures c.in_err-access.was c.from_residual.ensures.1)

pub returns : goal.returns
unfolding test
returns c = rw (lt-leb c.args.self.now.tree.levels.pins c.args.i (omega arith)) (walk-given _ _ c.access.ensures c.in_ok-access.was)
