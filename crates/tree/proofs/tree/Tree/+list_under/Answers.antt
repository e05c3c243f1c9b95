-- The left side, the node and the right side are listed one after the other, and so are the accesses to their positions.
use Rattle.std.proofs.Common.{true, false, ◌≡◌, ◌+◌, ◌-◌, ◌≤◌, ℕ, List, length, set, refl, sym, ap, ◌∙◌, arith, length-set}
use Rattle.std.proofs.lemmas.Result.{err_from_is_err_and}
use Rattle.codes.proofs.Promises.{list-laws}
use Rattle.tree.specs.declared.nodes.Levels.{Levels}
use Rattle.tree.specs.declared.shape.Stretch.{Stretch}
use Rattle.tree.specs.Shape.{root_place}
use Rattle.tree.specs.Levels.{Fits}
use Rattle.tree.specs.Times.{outcome}
use Rattle.tree.specs.Standing.{Stands}
use Rattle.codes.specs.Lists.{replaced}
use Rattle.tree.specs.Listing.{accesses, times_from, stop_from}
use Rattle.tree.proofs.LevelMarks.{marks-none}
use Rattle.tree.proofs.NodeFetches.{Level}
use Rattle.tree.proofs.Steps.{stands-node, stands-place, stands-level, stands-opens, stands-time}
use Rattle.tree.proofs.Listings.{lists-refused, stands-side, lists-left, lists-right}
use Rattle.tree.proofs.tree.Tree.+list_under.Goals as goal

-- the node is one of the tree, and its level lies in the bytes; its place is in its stretch, and that in the list
bounds : {levels : Levels} {s : List ℕ} {v depth : ℕ} {here : Stretch} {above : ℕ} → Fits levels s → Stands levels s v depth here above → 1 ≤ here.pins
    → (place : ℕ) → place ≡ root_place here.pins
    → Level levels s depth × (v ≤ levels.pins) × (1 ≤ place) × (place ≤ here.pins) × (here.start + here.pins ≤ levels.pins)
bounds fits w some place is =
    let node = stands-node w some in
    let p = rw (← is) at (stands-place w node) in
    (stands-level w fits node, node, p.0, p.1, w.inside)

pub returns-then-here-eq0 : goal.returns-then-here-eq0
unfolding stop_from times_from
returns-then-here-eq0 t c =
    rw c.if-here-eq0.true (record { lists = record { outcome = refl; ends = refl }; times_after = sym (list-laws.replaced_none c.args.times.now c.args.here.start) })

pub open_full-requires : goal.open_full-requires
open_full-requires t c = stands-opens c.requires.stands (marks-none _ _ 0) (stands-node c.requires.stands (omega arith))

pub returns-in-Err : goal.returns-in-Err
returns-in-Err t c =
    let z = lists-refused c.requires.stands c.requires.reaches (omega arith) (stands-time c.requires.stands c.open_full.ensures ∙ ap outcome c.in-Err.is) c.args.times.now in
    record { lists = z.0; times_after = z.1 }

pub child-requires : goal.child-requires
child-requires t c = omega (arith, bounds c.args.self.now.fits c.requires.stands (omega arith) _ refl)

pub child-requires-2 : goal.child-requires-2
child-requires-2 t c = omega (arith, bounds c.args.self.now.fits c.requires.stands (omega arith) _ refl)

pub list_under-requires : goal.list_under-requires
list_under-requires t c =
    let some : 1 ≤ c.args.here.pins = omega arith in
    let place = bounds c.args.self.now.fits c.requires.stands some c.root_place-place.result c.root_place-place.ensures in
    let time-is = stands-time c.requires.stands c.open_full.ensures ∙ ap outcome c.in-Ok.is in
    let side = stands-side c.requires.stands c.requires.reaches some time-is false c.side.ensures in
    (rw c.side.ensures (omega (arith, place, c.root_place-place.ensures)), (c.requires.long, rw c.child.ensures side))

pub returns-in_err-list_under : goal.returns-in_err-list_under
returns-in_err-list_under t c =
    let time-is = stands-time c.requires.stands c.open_full.ensures ∙ ap outcome c.in-Ok.is in
    let p = err_from_is_err_and c.from_residual.result c.from_residual.ensures.1 in
    let left = c.list_under in
    let z = lists-left c.requires.stands c.requires.reaches (omega arith) time-is c.side.ensures c.in_err-list_under.was left.ensures.lists c.args.times.now left.new.times left.ensures.times_after in
    rw (p.1, p.2) (record { lists = z.0; times_after = z.1 })

pub overflow_sub-times : goal.overflow_sub-times
overflow_sub-times t c =
    omega (arith, bounds c.args.self.now.fits c.requires.stands (omega arith) c.root_place-place.result c.root_place-place.ensures)

pub bounds-times-here : goal.bounds-times-here
bounds-times-here t c =
    omega (arith, bounds c.args.self.now.fits c.requires.stands (omega arith) c.root_place-place.result c.root_place-place.ensures, c.list_under.auto.times, c.requires.long)

pub list_under-requires-2 : goal.list_under-requires-2
list_under-requires-2 t c =
    let some : 1 ≤ c.args.here.pins = omega arith in
    let place = bounds c.args.self.now.fits c.requires.stands some c.root_place-place.result c.root_place-place.ensures in
    let time-is = stands-time c.requires.stands c.open_full.ensures ∙ ap outcome c.in-Ok.is in
    let side = stands-side c.requires.stands c.requires.reaches some time-is true c.side-2.ensures in (
      rw c.side-2.ensures (omega (arith, place, c.root_place-place.ensures)),
      (omega (arith, length-set c.list_under.new.times (c.args.here.start + c.root_place-place.result - 1) c.in-Ok.time, c.list_under.auto.times, c.requires.long), rw c.child-2.ensures side),
    )

pub returns : goal.returns
returns t c =
    let time-is = stands-time c.requires.stands c.open_full.ensures ∙ ap outcome c.in-Ok.is in
    let left = c.list_under in
    let right = c.list_under-2 in
    let room : c.args.here.start + c.args.here.pins ≤ length c.args.times.now = omega (arith, c.requires.stands.inside, c.requires.long) in
    let last : right.new.times ≡ replaced (set left.new.times (c.args.here.start + root_place c.args.here.pins - 1) c.in-Ok.time) c.side-2.result.start
    (times_from (accesses c.args.self.now.levels c.args.self.now.bytes.now) c.side-2.result.pins c.side-2.result.start) = rw (← c.root_place-place.ensures) right.ensures.times_after in
    let z = lists-right c.requires.stands c.requires.reaches (omega arith) time-is c.side.ensures c.in_ok-list_under.was left.ensures.lists
    c.args.times.now left.new.times left.ensures.times_after room c.side-2.ensures right.ensures.lists right.new.times last in
    record { lists = z.0; times_after = z.1 }
