-- The tree in the order of its ranks: under node v stand the ranks from a to b - 1, the node's own between those of its left and
-- its right subtree. What follows about ranks and walks goes by this tree alone.
use Rattle.std.proofs.Common.{◌≡◌, ℕ, zero, suc, ◌+◌, ◌-◌, ◌*◌, ◌≤◌, ◌<◌, zero-add, arith}
use native.Mathlib.Decide.{dec_lt}
use Rattle.tree.specs.Shape.{root_place, stretch, rank}
use Rattle.tree.proofs.Stretches.{stretch-root, stretch-left, stretch-right, no_pins, rank-in}

pub data Tree (n : ℕ) : ℕ → ℕ → ℕ → Type 0 where
  out : {v a b : ℕ} → n < v → a ≡ b → Tree n v a b
  node : {v a b : ℕ} → 1 ≤ v → v ≤ n → Tree n (2 * v) a (rank n v) → Tree n (2 * v + 1) (suc (rank n v)) b → Tree n v a b

tree-at : (n f v : ℕ) → n < v + f → 1 ≤ v → Tree n v (stretch n v).start ((stretch n v).start + (stretch n v).pins)
tree-at n zero v h b =
    let k : n < v = omega arith in
    let e : (stretch n v).start ≡ (stretch n v).start + (stretch n v).pins = omega (arith, no_pins n v k) in
    out k e
tree-at n (suc f) v h b = go (dec_lt n v) (tree-at n f (2 * v) (omega arith) (omega arith)) (tree-at n f (2 * v + 1) (omega arith) (omega arith))
  where
    go : Dec (n < v) → Tree n (2 * v) (stretch n (2 * v)).start ((stretch n (2 * v)).start + (stretch n (2 * v)).pins)
        → Tree n (2 * v + 1) (stretch n (2 * v + 1)).start ((stretch n (2 * v + 1)).start + (stretch n (2 * v + 1)).pins)
        → Tree n v (stretch n v).start ((stretch n v).start + (stretch n v).pins)
    go (yes k) l r = let e : (stretch n v).start ≡ (stretch n v).start + (stretch n v).pins = omega (arith, no_pins n v k) in out k e
    go (no k) l r =
        let k : v ≤ n = omega arith in
        let q = rank-in n v b k in
        let e₁ : (stretch n v).start + (root_place (stretch n v).pins - 1) ≡ rank n v = omega arith in
        let e₂ : (stretch n v).start + root_place (stretch n v).pins ≡ suc (rank n v) = omega arith in
        let e₃ : suc (rank n v) + ((stretch n v).pins - root_place (stretch n v).pins) ≡ (stretch n v).start + (stretch n v).pins = omega arith in
        node b k (rw (stretch-left n v b, e₁) at l) (rw (stretch-right n v b, e₂, e₃) at r)

pub tree : (n : ℕ) → Tree n 1 0 n
tree n = rw (stretch-root, zero-add) at (tree-at n n 1 (omega arith) (omega arith))

pub tree-le : {n v a b : ℕ} → Tree n v a b → a ≤ b
tree-le (out h e) = omega arith
tree-le (node h k l r) = omega (arith, tree-le l, tree-le r)
