-- The place of the root is in its stretch, so that nothing goes below 0 or past the list.
use Rattle.std.proofs.Common.{arith}
use Rattle.tree.proofs.Heights.{place_in}
use Rattle.tree.proofs.shape.Stretch.side.Goals as goal

pub overflow_add-result : goal.overflow_add-result
overflow_add-result c = omega (arith, place_in c.args.self.pins c.requires.0)

pub overflow_sub-result : goal.overflow_sub-result
overflow_sub-result c = omega (arith, place_in c.args.self.pins c.requires.0)

pub overflow_sub-result-else-right : goal.overflow_sub-result-else-right
overflow_sub-result-else-right c = omega (arith, place_in c.args.self.pins c.requires.0)
