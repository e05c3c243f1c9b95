-- With at most three pins the children have no children, and each node's time stands where the stretch says.
use Rattle.std.proofs.Common.{refl, arith}
use Rattle.tree.proofs.Fills.{filled-node, filled-past, filled-leaf, fill-node, one_time, few-time, above-left, above-right, few-left, few-right}
use Rattle.tree.proofs.building.Ordered.fill_few.Goals as goal

pub returns-then-pins-eq0 : goal.returns-then-pins-eq0
returns-then-pins-eq0 c =
    let p = c.requires in
    filled-past c.args.self.times.now p.in_bounds.1 p.stretch_is.0 c.if-pins-eq0.true c.args.values.now

pub fill_node-requires : goal.fill_node-requires
fill_node-requires c =
    let xs = c.args.self.times.now in
    let p = c.requires in
    let k = fill-node xs p.in_bounds.1 p.stretch_is.0 (omega arith) in
    record {
      in_bounds = (p.in_bounds.0, p.in_bounds.1, k, omega arith);
      at_value = (one_time xs p.in_bounds.1 p.stretch_is.0 (omega arith), p.stretch_is.2);
    }

pub returns-then-pins-eq1 : goal.returns-then-pins-eq1
returns-then-pins-eq1 c =
    let p = c.requires in
    filled-leaf c.args.self.times.now p.in_bounds.1 p.stretch_is.0 (omega arith) p.in_bounds.0 c.fill_node.ensures.values_after

pub fill_node-time-requires : goal.fill_node-time-requires
fill_node-time-requires c =
    let xs = c.args.self.times.now in
    let p = c.requires in
    let k = fill-node xs p.in_bounds.1 p.stretch_is.0 (omega arith) in
    record {
      in_bounds = (p.in_bounds.0, p.in_bounds.1, k, omega arith);
      at_value = (few-time xs p.in_bounds.1 p.stretch_is.0 (omega arith) (omega arith), p.stretch_is.2);
    }

pub fill_node-requires-2 : goal.fill_node-requires-2
fill_node-requires-2 c =
    let xs = c.args.self.times.now in
    let p = c.requires in
    let left = few-left xs p.in_bounds.1 p.stretch_is.0 (omega arith) (omega arith) in
    record {
      in_bounds = (omega arith, omega arith, fill-node xs (omega arith) left (omega arith), omega arith);
      at_value = (one_time xs (omega arith) left refl, above-left xs p.in_bounds.1 p.stretch_is.0 c.fill_node-time.ensures.value);
    }

pub fill_node-requires-then-pins-eq3 : goal.fill_node-requires-then-pins-eq3
fill_node-requires-then-pins-eq3 c =
    let xs = c.args.self.times.now in
    let p = c.requires in
    let right = few-right xs p.in_bounds.1 p.stretch_is.0 (omega arith) (omega arith) in
    record {
      in_bounds = (omega arith, omega arith, fill-node xs (omega arith) right (omega arith), omega arith);
      at_value = (one_time xs (omega arith) right (omega arith), above-right xs p.in_bounds.1 p.stretch_is.0 c.fill_node-time.ensures.value);
    }

pub returns-then-pins-eq3 : goal.returns-then-pins-eq3
returns-then-pins-eq3 c =
    let xs = c.args.self.times.now in
    let p = c.requires in
    let left = few-left xs p.in_bounds.1 p.stretch_is.0 (omega arith) (omega arith) in
    let right = few-right xs p.in_bounds.1 p.stretch_is.0 (omega arith) (omega arith) in
    filled-node xs c.args.v _ _ _ _ p.in_bounds.1 c.fill_node-time.ensures.among (omega arith) c.fill_node-time.ensures.values_after
    (filled-leaf xs (omega arith) left refl (omega arith) c.fill_node-2.ensures.values_after)
    (filled-leaf xs (omega arith) right (omega arith) (omega arith) c.fill_node-then-pins-eq3.ensures.values_after)

pub returns-else-pins-eq3 : goal.returns-else-pins-eq3
returns-else-pins-eq3 c =
    let xs = c.args.self.times.now in
    let p = c.requires in
    let left = few-left xs p.in_bounds.1 p.stretch_is.0 (omega arith) (omega arith) in
    let right = few-right xs p.in_bounds.1 p.stretch_is.0 (omega arith) (omega arith) in
    filled-node xs c.args.v _ _ _ _ p.in_bounds.1 c.fill_node-time.ensures.among (omega arith) c.fill_node-time.ensures.values_after
    (filled-leaf xs (omega arith) left refl (omega arith) c.fill_node-2.ensures.values_after)
    (filled-past xs (omega arith) right (omega arith) c.fill_node-2.new.values)
