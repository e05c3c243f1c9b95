-- The shape of the tree: nodes are numbered as in a heap, and each has a stretch of the list under it.
use Rattle.std.specs.Prelude.{Bool, true, false, cond, Option, Some, None, ℕ, zero, suc, ◌+◌, ◌-◌, ◌*◌, ◌/◌, ◌%◌, ◌^◌, eqb, ltb}
use Rattle.codes.specs.Choice.{width_in}
use Rattle.tree.specs.declared.shape.Stretch.{Stretch}

-- The height of n pins, the least h with 2 ^ h - 1 ≥ n, as `HeightLeast` in Promises says: the bits of n up to its highest one bit, of
-- which there are no more than n.
unfoldable pub height : ℕ → ℕ
height n = width_in n n

-- the root's place in a list of n, counted from 1; an empty list has no root, which 0 says
unfoldable pub root_place : ℕ → ℕ
root_place n =
    let h = height n in
    cond (ltb n 2) n (cond (ltb n (3 * 2 ^ (h - 2))) (n - 2 ^ (h - 2) + 1) (2 ^ (h - 1)))

-- the children of node v, the right one where the first argument says so
unfoldable pub child_of : Bool → ℕ → ℕ
child_of true v = 2 * v + 1
child_of false v = 2 * v

-- the stretch under the right child of a stretch's root is what follows the root, under the left child what precedes it
abbrev pub side_of : Bool → Stretch → Stretch
side_of true s = record { start = s.start + root_place s.pins; pins = s.pins - root_place s.pins }
side_of false s = record { start = s.start; pins = root_place s.pins - 1 }

-- by the parent's stretch, f times at most
unfoldable pub stretch_in : ℕ → ℕ → ℕ → Stretch
stretch_in zero n v = record { start = 0; pins = n }
stretch_in (suc f) n v =
    let below = side_of (eqb (v % 2) 1) (stretch_in f n (v / 2)) in
    cond (ltb v 2) (record { start = 0; pins = n }) below

-- The stretch of node v in a list of n; under node 1 stands the whole list. A number is halved to 1 in fewer steps than it has
-- binary digits; `stretch-root` and `stretch-child` in proofs/Stretches have the equations without their number.
unfoldable pub stretch : ℕ → ℕ → Stretch
stretch n v = stretch_in (height v) n v

-- a node's position in the whole list
unfoldable pub rank : ℕ → ℕ → ℕ
rank n v = (stretch n v).start + root_place (stretch n v).pins - 1

-- the rank of a number that is one of the nodes 1 to n
unfoldable pub ranked : ℕ → ℕ → Option ℕ
ranked n v = cond (eqb v 0) None (cond (ltb n v) None (Some (rank n v)))
