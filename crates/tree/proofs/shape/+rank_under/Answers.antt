-- Down one digit of v, the stretch of a node becomes that of its child on the side that the digit tells; at depth 0 the node is v itself.
use Rattle.std.proofs.Common.{◌≡◌, ◌-◌, ◌/◌, ◌%◌, ◌^◌, eqb, arith, sym}
use Rattle.tree.proofs.Stretches.{side-in, rank_is}
use Rattle.tree.proofs.Shifts.{shift-place, shift-some, shift-side}
use Rattle.tree.proofs.shape.+rank_under.Goals as goal

pub overflow_add-result : goal.overflow_add-result
overflow_add-result t c =
    let p = c.requires.among in
    omega (arith, c.root_place-place.ensures, shift-place p.0 c.args.v c.args.depth c.requires.depth_bound.2 p.2 p.1)

pub overflow_sub-result : goal.overflow_sub-result
overflow_sub-result t c =
    let p = c.requires.among in
    omega (arith, c.root_place-place.ensures, shift-place p.0 c.args.v c.args.depth c.requires.depth_bound.2 p.2 p.1)

pub returns-then-depth-eq0 : goal.returns-then-depth-eq0
returns-then-depth-eq0 t c = λ n e.
    let v : c.args.v / 2 ^ c.args.depth ≡ c.args.v = rw c.if-depth-eq0.true (omega arith) in
    rw c.root_place-place.ensures (sym (rank_is n c.args.v (rw v at e)))

pub side-side-requires : goal.side-side-requires
side-side-requires t c =
    let p = c.requires.among in
    (omega (arith, c.root_place-place.ensures, shift-place p.0 c.args.v c.args.depth c.requires.depth_bound.2 p.2 p.1), c.root_place-place.ensures, omega arith)

pub rank_under-requires : goal.rank_under-requires
rank_under-requires t c =
    let p = c.requires.among in
    let d = c.args.depth in
    let some = c.requires.depth_bound.2 in
    let place = shift-place p.0 c.args.v d some p.2 p.1 in
    let i = side-in (eqb (c.args.v / 2 ^ (d - 1) % 2) 1) c.args.here (omega (arith, place)) in
    rw c.side-side.ensures (
      omega arith,
      (
        (omega arith, omega (arith, i), shift-some p.0 c.args.v d some p.2 (omega arith)),
        (p.0, p.1, shift-side p.0 c.args.v d some p.2 (omega arith)),
      ),
    )

pub returns : goal.returns
returns t c = λ n e. c.rank_under.ensures n (rw c.side-side.ensures (shift-side n c.args.v c.args.depth c.requires.depth_bound.2 e (omega arith)))
