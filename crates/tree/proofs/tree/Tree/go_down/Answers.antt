use Rattle.std.proofs.Common.{ℕ, suc, ◌-◌, ◌≤◌, ◌<◌, true, false, sym, ap, ◌∙◌, arith}
use Rattle.std.proofs.lemmas.Result.{err_from_is_err_and}
use Rattle.tree.specs.Times.{outcome, times_in}
use Rattle.tree.specs.Remembering.{entries}
use Rattle.tree.proofs.Stretches.{stretch-child}
use Rattle.tree.proofs.Walks.{child-bounds}
use Rattle.tree.proofs.Steps.{stands-level, stands-time, stands-child, target-refused}
use Rattle.tree.proofs.Remembering.{count_under, comes-right, comes-left}
use Rattle.tree.proofs.tree.Tree.go_down.Goals as goal

less : (n v u : ℕ) → v ≤ n → v < u → suc n - u < suc n - v
less n v u h k = omega arith

pub overflow_add-opened : goal.overflow_add-opened
overflow_add-opened c =
    let g = c.loop-node.invariant.comes.goes in
    omega (arith, stands-level c.loop-node.invariant.stands c.args.self.now.fits c.loop-node-test.true, g.few, c.loop-node.invariant.stands.inside, count_under g c.args.self.now.fits c.loop-node-test.true)

pub returns-in_err-time : goal.returns-in_err-time
returns-in_err-time c =
    let l = c.loop-node in
    let tree = c.args.self.now in
    let p = err_from_is_err_and c.from_residual.result c.from_residual.ensures.1 in
    let e = stands-time l.invariant.stands c.open_node.ensures ∙ ap outcome c.in_err-time.was in
    let kept = entries l.progress.kept l.count in
    let stops = target-refused tree.levels.pins (times_in tree.levels tree.bytes.now) c.args.target kept l.opened l.node.v _ _ l.invariant.stands.one c.loop-node-test.true e in
    rw (p.1, p.2) (record { leaves = sym l.invariant.comes.answer ∙ stops; level_marks_2 = c.open_node.ensures.marks })

pub child-node-requires : goal.child-node-requires
child-node-requires c =
    let level = stands-level c.loop-node.invariant.stands c.args.self.now.fits c.loop-node-test.true in
    (omega (arith, level.few), omega (arith, level.deep))

pub offset_bounds-progress-count : goal.offset_bounds-progress-count
offset_bounds-progress-count c = omega (arith, count_under c.loop-node.invariant.comes.goes c.args.self.now.fits c.loop-node-test.true)

pub bounds-progress-count : goal.bounds-progress-count
bounds-progress-count c = count_under c.loop-node.invariant.comes.goes c.args.self.now.fits c.loop-node-test.true

pub overflow_add-count : goal.overflow_add-count
overflow_add-count c = omega (arith, count_under c.loop-node.invariant.comes.goes c.args.self.now.fits c.loop-node-test.true)

pub child-node-requires-else-time-target : goal.child-node-requires-else-time-target
child-node-requires-else-time-target c =
    let level = stands-level c.loop-node.invariant.stands c.args.self.now.fits c.loop-node-test.true in
    (omega (arith, level.few), omega (arith, level.deep))

pub loop-node-smaller-then-time-target : goal.loop-node-smaller-then-time-target
loop-node-smaller-then-time-target c =
    rw c.child-node.ensures (less _ _ _ c.loop-node-test.true (omega (arith, child-bounds true c.loop-node.node.v, c.loop-node.invariant.stands.one)))

pub loop-node-preserved-then-time-target : goal.loop-node-preserved-then-time-target
loop-node-preserved-then-time-target c =
    let tree = c.args.self.now in
    let w = c.loop-node.invariant.stands in
    let k : c.loop-node.node.v ≤ tree.levels.pins = c.loop-node-test.true in
    let x = stands-time w c.open_node.ensures ∙ ap outcome c.in_ok-time.was in
    rw c.child-node.ensures (record {
      comes = comes-right c.args.target c.loop-node.invariant.comes tree.fits k x c.if-time-target.true;
      stands = rw (stretch-child tree.levels.pins true c.loop-node.node.v w.one) (stands-child w true _ k x);
      marks = c.open_node.ensures.marks;
    })

pub loop-node-smaller : goal.loop-node-smaller
loop-node-smaller c =
    rw c.child-node-else-time-target.ensures (less _ _ _ c.loop-node-test.true (omega (arith, child-bounds false c.loop-node.node.v, c.loop-node.invariant.stands.one)))

pub loop-node-preserved : goal.loop-node-preserved
loop-node-preserved c =
    let tree = c.args.self.now in
    let w = c.loop-node.invariant.stands in
    let k : c.loop-node.node.v ≤ tree.levels.pins = c.loop-node-test.true in
    let y = stands-time w c.open_node.ensures ∙ ap outcome c.in_ok-time.was in
    rw c.child-node-else-time-target.ensures (record {
      comes = comes-left c.args.target c.loop-node.invariant.comes tree.fits k y c.if-time-target.false;
      stands = rw (stretch-child tree.levels.pins false c.loop-node.node.v w.one) (stands-child w false _ k y);
      marks = c.open_node.ensures.marks;
    })
