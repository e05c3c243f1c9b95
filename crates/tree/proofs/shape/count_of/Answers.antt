-- From its first node on the level has the nodes up to n, and at most as many as stand before it with one more.
use Rattle.std.proofs.Common.{arith}
use Rattle.tree.proofs.Heights.{level-starts, height-le}
use Rattle.tree.proofs.shape.count_of.Goals as goal

pub power_of_two-first-requires : goal.power_of_two-first-requires
power_of_two-first-requires c = omega (arith, height-le c.args.n 64 (omega arith))

pub overflow_sub-n : goal.overflow_sub-n
overflow_sub-n c = omega (arith, level-starts c.args.n c.args.d (omega arith))
