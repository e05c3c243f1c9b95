-- In an ordered list a left child's time is at most its parent's and a right child's at least, so that the difference is what the node stores.
use Rattle.std.proofs.Common.{ap, ◌∙◌, ◌-◌, set}
use Rattle.tree.specs.Stored.{stored}
use Rattle.tree.proofs.Contents.{sides}
use Rattle.tree.proofs.building.Ordered.fill_node.Goals as goal

pub stored_value-requires : goal.stored_value-requires
stored_value-requires c =
    let d = sides c.args.self.times.now c.args.self.in_order c.args.v c.requires.in_bounds.1 c.requires.in_bounds.2 in
    rw (c.requires.at_value.0, ← c.requires.at_value.1) (d.even, d.odd)

pub returns-clause-values_after : goal.returns-clause-values_after
unfolding stored
returns-clause-values_after c =
    let p = c.requires.at_value in
    ap (set c.args.values.now (c.args.v - 1)) (c.stored_value.ensures ∙ rw (p.0, p.1))
