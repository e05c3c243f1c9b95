-- The levels of an open strip have no more pins than the longest list.
use native.Mathlib.Omega.{arith}
use Rattle.std.proofs.Common.{rules}
use Rattle.strip.proofs.Checks.{pins-few}
use Rattle.strip.proofs.open.Open.check.Goals as goal

pub in_arrays-requires-clause-few : goal.in_arrays-requires-clause-few
in_arrays-requires-clause-few c = omega (arith, pins-few c.args.self.now.tree.levels c.args.self.now.tree.bytes.now c.args.self.now.tree.fits)

pub returns : goal.returns
returns c = let ran = c.in_arrays.ensures.10 in search rules
