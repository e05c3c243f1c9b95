-- The ranks of the nodes 1 to n are 0 to n - 1.
use Rattle.std.proofs.Common.{◌≡◌, sym, ap, subst, Bool, true, false, ℕ, zero, suc, ◌*◌, ◌+◌, ◌/◌, ◌%◌, ◌≤◌, ◌<◌, le_refl, arith, eqb}
use native.Mathlib.Decide.{dec_lt}
use lib.Arith.{half_le}
use Rattle.tree.specs.Shape.{child_of, rank}
use Rattle.tree.specs.Filled.{Under, here, below}
use Rattle.tree.proofs.Stretches.{stretch-left, stretch-right, rank-in}
use Rattle.tree.proofs.Walks.{child-bounds, child-half}
use Rattle.tree.proofs.Inorder.{Tree, out, node, tree, tree-le}

-- every rank is some node's
pub rank-found : {n w a b : ℕ} → Tree n w a b → (i : ℕ) → a ≤ i → i < b → (v : ℕ) × (1 ≤ v) × (v ≤ n) × (rank n v ≡ i)
rank-found (out h e) i lo hi = absurd (omega arith)
rank-found {n} {w} (node h k l r) i lo hi = elim (dec_lt i (rank n w)) [
  | yes x ↦ rank-found l i lo x
  | no x ↦ elim (dec_lt (rank n w) i) [ yes y ↦ rank-found r i y hi | no y ↦ let e : rank n w ≡ i = omega arith in (w, h, k, e) ]
]

under-child : {w u : ℕ} (right : Bool) → Under w u → Under w (child_of right u)
under-child right (here e) = below right (here (ap (child_of right) e))
under-child right (below b x) = below b (under-child right x)

under_to : (f v : ℕ) → v ≤ f → 1 ≤ v → Under 1 v
under_to zero v a b = absurd (omega arith)
under_to (suc f) v a b = elim (dec_lt v 2) [
  | yes h ↦ let e : 1 ≡ v = omega arith in here e
  | no h ↦ subst (Under 1) (sym (child-half v)) (under-child (eqb (v % 2) 1) (under_to f (v / 2) (half_le a) (omega arith)))
]

pub under-root : (v : ℕ) → 1 ≤ v → Under 1 v
under-root v h = under_to v v (le_refl v) h

pub under-out : {w u : ℕ} (n : ℕ) → Under w u → n < w → n < u
under-out n (here e) h = omega arith
under-out {w} n (below b x) h = under-out n x (omega (arith, child-bounds b w))

pub under-rank : {n w a b u : ℕ} → Tree n w a b → Under w u → u ≤ n → (a ≤ rank n u) × (rank n u < b)
unfolding child_of
under-rank {n} (out h e) x k = absurd (omega (arith, under-out n x h))
under-rank {n} (node h k l r) (here e) q = let z = ap (rank n) e in omega (arith, tree-le l, tree-le r)
under-rank {n} (node h k l r) (below false x) q = omega (arith, under-rank l x q, tree-le r)
under-rank {n} (node h k l r) (below true x) q = omega (arith, under-rank r x q, tree-le l)

pub rank_lt : (n v : ℕ) → 1 ≤ v → v ≤ n → rank n v < n
rank_lt n v h k = (under-rank (tree n) (under-root v h) k).1

-- ranks rise from a left child to its parent, and from there to the right child
pub rank_left : (n u : ℕ) → 1 ≤ u → 2 * u ≤ n → rank n (2 * u) < rank n u
rank_left n u h k = omega (arith, rank-in n u h (omega arith), rw (stretch-left n u h) at (rank-in n (2 * u) (omega arith) k))

pub rank_right : (n u : ℕ) → 1 ≤ u → 2 * u + 1 ≤ n → rank n u < rank n (2 * u + 1)
rank_right n u h k = omega (arith, rank-in n u h (omega arith), rw (stretch-right n u h) at (rank-in n (2 * u + 1) (omega arith) k))
