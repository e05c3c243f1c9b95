-- From the root on `fill` fills the entries of all nodes.
use Rattle.std.proofs.Common.{length, arith}
use Rattle.tree.proofs.Stretches.{stretch-root}
use Rattle.tree.proofs.Contents.{above_root}
use Rattle.tree.proofs.Fills.{filled-all}
use Rattle.tree.proofs.building.construct.Goals as goal

pub fill-requires-clause-stretch_is : goal.fill-requires-clause-stretch_is
fill-requires-clause-stretch_is c =
    let xs = c.args.times.now in
    (stretch-root (length xs), omega arith, above_root xs 1 (omega arith))

pub returns : goal.returns
returns c = filled-all c.args.times.now c.args.values.now c.fill.new.values c.requires.times_in_bounds c.fill.ensures
