-- Where the short fetch has a value it is the node's, by any count; else `open_full` opens the node.
use Rattle.std.proofs.Common.{sym, ap, ◌∙◌, arith}
use Rattle.codes.proofs.Promises.{short-fetches}
use Rattle.tree.specs.Outcomes.{gives}
use Rattle.tree.specs.Times.{under}
use Rattle.tree.proofs.Heights.{height-above}
use Rattle.tree.proofs.NodeFetches.{fetched-from, level-fits, index_below, node-inside}
use Rattle.tree.proofs.tree.Tree.open_node.Goals as goal

pub part-requires : goal.part-requires
part-requires c = height-above c.args.self.now.levels.pins c.args.node.depth (omega arith)

pub bounds-self-depth : goal.bounds-self-depth
bounds-self-depth c = (level-fits c.args.self.now.fits c.requires.low c.requires.among).deep

pub power_of_two-requires : goal.power_of_two-requires
power_of_two-requires c = omega (arith, (level-fits c.args.self.now.fits c.requires.low c.requires.among).deep)

pub fetch_short-requires : goal.fetch_short-requires
fetch_short-requires c =
    let level = level-fits c.args.self.now.fits c.requires.low c.requires.among in
    let below = index_below c.args.self.now.levels.pins c.args.node.depth c.args.node.v _ c.power_of_two.ensures c.requires.low c.requires.high c.requires.among in
    rw c.part.ensures (omega (arith, level.few), node-inside level _ below)

pub returns-in-Some : goal.returns-in-Some
returns-in-Some c =
    let tree = c.args.self.now in
    let v = c.args.node.v in
    let d = c.args.node.depth in
    let level = level-fits tree.fits c.requires.low c.requires.among in
    let below = index_below tree.levels.pins d v _ c.power_of_two.ensures c.requires.low c.requires.high c.requires.among in
    let node = fetched-from tree.levels tree.bytes.now d v _ c.power_of_two.ensures c.requires.low c.requires.high in
    let short = rw c.part.ensures at (sym c.fetch_short.ensures ∙ c.in-Some.is) in
    record {
      time = c.time_under.ensures ∙ ap (under v (gives c.args.node.above)) (sym (node ∙ short-fetches _ _ _ _ _ (node-inside level _ below) short));
      marks = c.requires.marks;
    }
