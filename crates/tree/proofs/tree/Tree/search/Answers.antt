use Rattle.std.proofs.Common.{cond, ltb, [], ◌∷◌, ℕ, ◌≤◌, refl, sym, ap, ◌∙◌, arith}
use Rattle.std.proofs.lemmas.Result.{err_from_is_err_and}
use native.Mathlib.Nat.{zero-add}
use Rattle.tree.specs.Outcomes.{gives}
use Rattle.tree.specs.Times.{outcome, times_in}
use Rattle.tree.specs.Walks.{found}
use Rattle.tree.proofs.Stretches.{stretch-root, stretch-child}
use Rattle.tree.proofs.Walks.{child-bounds, parent_of}
use Rattle.tree.proofs.NodeFetches.{pins-bound}
use Rattle.tree.proofs.Steps.{stands-root, stands-end, stands-level, stands-time, stands-child, side-ends}
use Rattle.tree.proofs.Steps.{target-end, target-refused, target-step}
use Rattle.tree.proofs.tree.Tree.search.Goals as goal

pub loop-node-init : goal.loop-node-init
loop-node-init c =
    rw (stretch-root c.args.self.now.levels.pins)
    (stands-root c.args.self.now.levels c.args.self.now.bytes.now, ([], sym (zero-add c.args.self.now.levels.pins), refl), omega arith, refl)

pub returns-in_err-time : goal.returns-in_err-time
returns-in_err-time c =
    let tree = c.args.self.now in
    let l = c.loop-node in
    let p = err_from_is_err_and c.from_residual.result c.from_residual.ensures.1 in
    let e = stands-time l.invariant.0 c.open_node.ensures ∙ ap outcome c.in_err-time.was in
    rw (p.1, p.2)
    (sym (target-refused tree.levels.pins (times_in tree.levels tree.bytes.now) c.args.target l.invariant.1.0 l.node.depth l.node.v _ _ l.invariant.0.one c.loop-node-test.true e)
    ∙ l.invariant.1.2)

pub child-node-requires : goal.child-node-requires
child-node-requires c =
    let level = stands-level c.loop-node.invariant.0 c.args.self.now.fits c.loop-node-test.true in
    (omega (arith, level.few), omega (arith, level.deep))

pub overflow_add-nodes : goal.overflow_add-nodes
overflow_add-nodes c = omega (arith, (stands-level c.loop-node.invariant.0 c.args.self.now.fits c.loop-node-test.true).deep, c.loop-node.invariant.3)

pub loop-node-smaller : goal.loop-node-smaller
loop-node-smaller c =
    let l = c.loop-node in
    rw c.child-node.ensures (omega (arith, child-bounds (ltb c.in_ok-time.time c.args.target) l.node.v, l.invariant.0.one))

pub loop-node-preserved : goal.loop-node-preserved
loop-node-preserved c =
    let tree = c.args.self.now in
    let l = c.loop-node in
    let x = c.in_ok-time.time in
    let time-is = stands-time l.invariant.0 c.open_node.ensures ∙ ap outcome c.in_ok-time.was in
    let t = c.args.target in
    let n = tree.levels.pins in
    let kept = l.invariant.1.0 in
    let k : l.node.v ≤ n = c.loop-node-test.true in
    rw (c.child-node.ensures, stretch-child n (ltb x t) l.node.v l.invariant.0.one) (
      stands-child l.invariant.0 (ltb x t) x k time-is,
      (
        cond (ltb x t) kept (l.node.v ∷ kept),
        side-ends l.invariant.0 k (ltb x t) kept l.invariant.1.1,
        sym (target-step n (times_in tree.levels tree.bytes.now) t kept l.node.v x l.invariant.0.one k time-is l.node.depth) ∙ l.invariant.1.2,
      ),
      rw (parent_of (ltb x t) l.node.v) k,
      omega (arith, l.invariant.3),
    )

pub missing_at-requires : goal.missing_at-requires
missing_at-requires c = (omega arith, c.loop-node.invariant.2, omega (arith, pins-bound c.args.self.now.levels c.args.self.now.bytes.now c.args.self.now.fits))

pub returns : goal.returns
returns c =
    let tree = c.args.self.now in
    let l = c.loop-node in
    ap (λ (k : ℕ). gives (found c.missing_at.result k)) l.invariant.3
    ∙ ap (λ (p : ℕ). gives (found p l.node.depth)) (c.missing_at.ensures ∙ sym (l.invariant.1.1 ∙ stands-end l.invariant.0 c.loop-node-test.false))
    ∙ sym (target-end tree.levels.pins (times_in tree.levels tree.bytes.now) c.args.target l.invariant.1.0 l.node.depth l.node.v c.loop-node-test.false) ∙ l.invariant.1.2
