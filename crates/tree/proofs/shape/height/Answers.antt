-- The number of bits up to the highest one bit is the only number that bounds n as the height does.
use Rattle.std.proofs.Common.{arith}
use lib.Count.{leading_length}
use Rattle.tree.proofs.Heights.{height-unique}
use Rattle.tree.proofs.shape.height.Goals as goal

pub returns : goal.returns
returns c =
    let l = leading_length 64 c.args.n (omega arith) in
    let e = height-unique c.args.n l.0 l.2 l.3 in
    omega arith
