-- The node's entry, then those of its left and of its right side, are the entries of its stretch; each side has fewer pins.
use Rattle.std.proofs.Common.{◌≡◌, ℕ, length, true, false, ◌+◌, ◌-◌, ◌≤◌, arith}
use Rattle.tree.specs.Shape.{root_place}
use Rattle.tree.proofs.Heights.{place_in, place-law}
use Rattle.tree.proofs.Stretches.{side-in}
use Rattle.tree.proofs.Fills.{filled-node, fill-node, fill-time, left-is, right-is, above-left, above-right}
use Rattle.tree.proofs.building.Ordered.+fill.Goals as goal

-- the place is in the stretch
placed : (pins place : ℕ) → 1 ≤ pins → place ≡ root_place pins → (1 ≤ place) × (place ≤ pins)
placed pins place some is = rw is (place_in pins some)

-- the sides of seven pins have no more than three
few : (pins place : ℕ) → 4 ≤ pins → pins ≤ 7 → place ≡ root_place pins → (place ≤ 4) × (pins ≤ place + 3)
few pins place many seven is = rw is (omega (arith, place-law 1 pins (pins - 3) (omega arith) (omega arith)))

pub overflow_add-here : goal.overflow_add-here
overflow_add-here t c = omega (arith, placed c.args.here.pins c.root_place-place.result (omega arith) c.root_place-place.ensures)

pub overflow_sub-here : goal.overflow_sub-here
overflow_sub-here t c = omega (arith, placed c.args.here.pins c.root_place-place.result (omega arith) c.root_place-place.ensures)

pub fill_node-time-requires : goal.fill_node-time-requires
fill_node-time-requires t c =
    let p = c.requires in
    let place = placed c.args.here.pins c.root_place-place.result (omega arith) c.root_place-place.ensures in
    let k = fill-node c.args.self.times.now p.in_bounds.1 p.stretch_is.0 (omega arith) in
    record {
      in_bounds = (omega arith, p.in_bounds.1, k, omega arith);
      at_value = (rw c.root_place-place.ensures (fill-time c.args.self.times.now p.in_bounds.1 p.stretch_is.0), p.stretch_is.2);
    }

pub fill_few-requires-then-here-le7 : goal.fill_few-requires-then-here-le7
fill_few-requires-then-here-le7 t c =
    let p = c.requires in
    let xs = c.args.self.times.now in
    let f = few c.args.here.pins c.root_place-place.result (omega arith) (omega arith) c.root_place-place.ensures in
    let i = side-in false c.args.here (omega arith) in
    let room : length xs ≤ length c.fill_node-time.new.values = omega arith in
    rw c.side-left.ensures record {
      in_bounds = (room, omega arith, omega arith);
      stretch_is = (
        left-is xs p.in_bounds.1 p.stretch_is.0,
        omega arith,
        above-left xs p.in_bounds.1 p.stretch_is.0 c.fill_node-time.ensures.value,
      );
    }

pub fill_few-requires-then-here-le7-2 : goal.fill_few-requires-then-here-le7-2
fill_few-requires-then-here-le7-2 t c =
    let p = c.requires in
    let xs = c.args.self.times.now in
    let f = few c.args.here.pins c.root_place-place.result (omega arith) (omega arith) c.root_place-place.ensures in
    let i = side-in true c.args.here (omega arith) in
    let room : length xs ≤ length c.fill_few-then-here-le7.new.values = omega arith in
    rw c.side-right.ensures record {
      in_bounds = (room, omega arith, omega arith);
      stretch_is = (
        right-is xs p.in_bounds.1 p.stretch_is.0,
        omega arith,
        above-right xs p.in_bounds.1 p.stretch_is.0 c.fill_node-time.ensures.value,
      );
    }

pub returns-then-here-le7 : goal.returns-then-here-le7
returns-then-here-le7 t c =
    filled-node c.args.self.times.now c.args.v _ _ _ _ c.requires.in_bounds.1 c.fill_node-time.ensures.among (omega arith)
    c.fill_node-time.ensures.values_after c.fill_few-then-here-le7.ensures c.fill_few-then-here-le7-2.ensures

pub fill-requires : goal.fill-requires
fill-requires t c =
    let p = c.requires in
    let xs = c.args.self.times.now in
    let i = side-in false c.args.here (omega arith) in
    let room : length xs ≤ length c.fill_node-time.new.values = omega arith in
    rw c.side-left.ensures (
      omega arith,
      (
        (room, omega arith),
        (left-is xs p.in_bounds.1 p.stretch_is.0, omega arith, above-left xs p.in_bounds.1 p.stretch_is.0 c.fill_node-time.ensures.value),
      ),
    )

pub fill-requires-2 : goal.fill-requires-2
fill-requires-2 t c =
    let p = c.requires in
    let xs = c.args.self.times.now in
    let i = side-in true c.args.here (omega arith) in
    let room : length xs ≤ length c.fill.new.values = omega arith in
    rw c.side-right.ensures (
      omega arith,
      (
        (room, omega arith),
        (right-is xs p.in_bounds.1 p.stretch_is.0, omega arith, above-right xs p.in_bounds.1 p.stretch_is.0 c.fill_node-time.ensures.value),
      ),
    )

pub returns : goal.returns
returns t c =
    filled-node c.args.self.times.now c.args.v _ _ _ _ c.requires.in_bounds.1 c.fill_node-time.ensures.among (omega arith)
    c.fill_node-time.ensures.values_after c.fill.ensures c.fill-2.ensures
