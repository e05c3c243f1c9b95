use Rattle.std.proofs.Common.{◌≡◌, ℕ, suc, ◌+◌, ◌-◌, ◌/◌, ◌^◌, ◌≤◌, Result, List, [], ◌∷◌, refl, sym, ap, ◌∙◌, arith}
use Rattle.std.proofs.lemmas.Result.{err_from_is_err_and}
use mathlib.Core.Path.{ap₂}
use native.Mathlib.Nat.{div-one, zero-add}
use lib.Pow.{shr-shr, shr_le, shr_lt, pow_pos}
use Rattle.tree.specs.Shape.{height}
use Rattle.tree.specs.declared.nodes.Levels.{Levels}
use Rattle.tree.specs.declared.nodes.Refusal.{Refusal}
use Rattle.tree.specs.Levels.{fetched_at}
use Rattle.tree.specs.declared.walking.Found.{Found}
use Rattle.tree.specs.Outcomes.{Outcome, gives, known, verdict}
use Rattle.tree.specs.Times.{outcome, under, times_in}
use Rattle.tree.specs.Walks.{found, met, access_answer}
use Rattle.tree.specs.Standing.{Openable}
use Rattle.tree.proofs.Heights.{height_bound, height-mono, first-digits}
use Rattle.tree.proofs.NodeTimes.{time-above, time-step}
use Rattle.tree.proofs.LevelMarks.{marks-none}
use Rattle.tree.proofs.NodeFetches.{pins-bound}
use Rattle.tree.proofs.Walks.{met-fine, met-refused}
use Rattle.tree.proofs.Paths.{down_to, down_to-on, access-down}
use Rattle.tree.proofs.tree.Tree.access.Goals as goal

-- the node that is opened `depth` levels down on the way to a node
module _ (levels : Levels) (s : List ℕ) (to depth below : ℕ) (e : depth + suc below ≡ height to) where
  left : height to - depth ≡ below + 1
  left = omega arith

  opens-at : (1 ≤ to) × (to ≤ levels.pins) → Openable levels s [] depth (to / 2 ^ below)
  opens-at g =
      let d = first-digits to depth below g.0 e in
      record { marks = marks-none _ _ 0; low = d.0; high = d.1; among = omega (arith, g.1, shr_le to below) }

  time-at : {above : ℕ} (r : Result ℕ Refusal) → 1 ≤ to → times_in levels s (to / 2 ^ (height to - depth)) ≡ gives above
      → outcome r ≡ under (to / 2 ^ below) (gives above) (fetched_at levels s (to / 2 ^ below)) → times_in levels s (to / 2 ^ below) ≡ outcome r
  time-at r h is o =
      let some = (first-digits to depth below h e).0 in
      time-step (fetched_at levels s) (to / 2 ^ below) (omega (arith, some, pow_pos depth)) ∙ rw (shr-shr to below 1, ← left, is) (sym o)

  down-on : (a : Found) {x : Outcome Found} → met (times_in levels s) (down_to to (height to - depth)) a ≡ x
      → met (times_in levels s) (to / 2 ^ below ∷ down_to to (height to - (depth + 1))) a ≡ x
  down-on a h =
      let last : below + 1 - 1 ≡ below = omega arith in
      let next : height to - (depth + 1) ≡ below = omega arith in
      rw next (rw (left, down_to-on to (below + 1) (omega arith), last) at h)

pub node_of-goal-requires : goal.node_of-goal-requires
node_of-goal-requires c = omega (arith, c.requires, pins-bound c.args.self.now.levels c.args.self.now.bytes.now c.args.self.now.fits)

pub loop-depth-init : goal.loop-depth-init
loop-depth-init c =
    let tree = c.args.self.now in
    let to = c.node_of-goal.result in
    let all : height to - 0 ≡ height to = omega arith in
    let z : to / 2 ^ height to ≡ 0 = omega (arith, shr_lt {n = to} 0 (height to) (rw zero-add (height_bound to))) in
    rw (all, z) (
      refl,
      time-above (fetched_at tree.levels tree.bytes.now),
      sym (access-down tree.levels.pins to (times_in tree.levels tree.bytes.now) c.node_of-goal.ensures.0 c.node_of-goal.ensures.1)
          ∙ ap (access_answer tree.levels.pins (times_in tree.levels tree.bytes.now)) c.node_of-goal.ensures.2,
    )

pub overflow_shr-v : goal.overflow_shr-v
overflow_shr-v c =
    omega (arith, c.height-levels.ensures, height-mono c.node_of-goal.result c.args.self.now.levels.pins c.node_of-goal.ensures.1, c.args.self.now.fits.height_fits)

pub open_node-requires : goal.open_node-requires
open_node-requires c =
    opens-at c.args.self.now.levels c.args.self.now.bytes.now c.node_of-goal.result c.loop-depth.depth _ (omega (arith, c.height-levels.ensures)) (c.node_of-goal.ensures.0, c.node_of-goal.ensures.1)

pub returns-in_err-above : goal.returns-in_err-above
returns-in_err-above c =
    let tree = c.args.self.now in
    let to : ℕ = c.node_of-goal.result in
    let e : c.loop-depth.depth + suc (c.height-levels.result - 1 - c.loop-depth.depth) ≡ height to = omega (arith, c.height-levels.ensures) in
    let p = err_from_is_err_and c.from_residual.result c.from_residual.ensures.1 in
    let is = time-at tree.levels tree.bytes.now to c.loop-depth.depth _ e c.open_node.result c.node_of-goal.ensures.0 c.loop-depth.invariant.1 c.open_node.ensures.time in
    rw (p.1, p.2)
    (sym (met-refused (times_in tree.levels tree.bytes.now) _ _ _ (is ∙ ap outcome c.in_err-above.was))
    ∙ down-on tree.levels tree.bytes.now to c.loop-depth.depth _ e _ c.loop-depth.invariant.2)

pub loop-depth-preserved : goal.loop-depth-preserved
loop-depth-preserved c =
    let tree = c.args.self.now in
    let to : ℕ = c.node_of-goal.result in
    let e : c.loop-depth.depth + suc (c.height-levels.result - 1 - c.loop-depth.depth) ≡ height to = omega (arith, c.height-levels.ensures) in
    let is = time-at tree.levels tree.bytes.now to c.loop-depth.depth _ e c.open_node.result c.node_of-goal.ensures.0 c.loop-depth.invariant.1 c.open_node.ensures.time ∙ ap outcome c.in_ok-above.was in
    let below : height to - (c.loop-depth.depth + 1) ≡ c.height-levels.result - 1 - c.loop-depth.depth = omega (arith, e) in (
      omega (arith, c.loop-depth.invariant.0),
      rw below is,
      sym (met-fine (times_in tree.levels tree.bytes.now) _ _ _ is)
          ∙ down-on tree.levels tree.bytes.now to c.loop-depth.depth _ e _ c.loop-depth.invariant.2,
    )

pub returns : goal.returns
unfolding met verdict down_to
returns c =
    let tree = c.args.self.now in
    let read = times_in tree.levels tree.bytes.now in
    let to = c.node_of-goal.result in
    let z : height to - c.loop-depth.depth ≡ 0 = omega (arith, c.height-levels.ensures) in
    let t : read to ≡ gives c.loop-depth.above = ap read (sym (div-one to)) ∙ rw z at c.loop-depth.invariant.1 in
    ap gives (ap₂ found (sym (ap known t)) (omega (arith, c.height-levels.ensures, c.loop-depth.invariant.0))) ∙ rw z at c.loop-depth.invariant.2
