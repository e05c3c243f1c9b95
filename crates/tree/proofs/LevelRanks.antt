-- The ranks of nodes in closed form, and what the last level does to the ranks of the nodes above it: the list of the nodes above, with the
-- level's nodes put between its entries, is the list of all.
use Rattle.std.proofs.Common.{◌≡◌, ap, ℕ, zero, suc, ◌+◌, ◌-◌, ◌*◌, ◌/◌, ◌^◌, ◌≤◌, ◌<◌, min, mul-le-mul_right, arith, pow_pos, pow-add, pow_mono}
use native.Mathlib.Nat.{pow-succ'}
use native.Mathlib.Decide.{dec_lt}
use Rattle.tree.specs.Shape.{stretch, rank}
use Rattle.tree.proofs.Heights.{digits, place-small}
use Rattle.tree.proofs.Stretches.{Child, left, right, child, stretch-root, stretch-left, stretch-right, pins-at, place_at, rank-in}

-- the nodes of the last level under a node at depth d are those from v * 2 ^ k on
under_last : (j d k v : ℕ) → j ≡ d + k → 2 ^ d ≤ v → v < 2 ^ suc d → (2 ^ j ≤ v * 2 ^ k) × (v * 2 ^ k + 2 ^ k ≤ 2 * 2 ^ j)
under_last j d k v ej a b =
    let l = mul-le-mul_right (2 ^ k) b in
    rw (ej, pow-add 2 d k) (mul-le-mul_right (2 ^ k) a, omega (arith, rw (pow-succ' 2 d) at l))

-- past the left side of a node, where b nodes of the last level may stand
past-left : (n s z b q : ℕ) → s + (z - suc n) ≡ 2 * (z - q) → q ≤ z → s + (b + min (suc n - z) b) + (z + b - suc n) ≡ 2 * (z + b - q)
past-left n s z b q i l = omega arith

-- where the stretch of a node starts: after the full tree's, less the missing nodes before it
pub start-at : (n j d k v : ℕ) → j ≡ d + k → 2 ^ j ≤ n → n < 2 ^ suc j → 2 ^ d ≤ v → v < 2 ^ suc d
    → (stretch n v).start + (v * 2 ^ k - suc n) ≡ 2 * (v * 2 ^ k - 2 ^ j)
start-at n j zero k v ej lo hi a b =
    let ev : v ≡ 1 = omega arith in
    let ek : j ≡ k = omega arith in
    rw (ev, stretch-root n) (omega (arith, rw ek at lo, rw ek at hi, ap (λ (x : ℕ). 2 ^ x) ek))
start-at n j (suc d) k v ej lo hi a b = go (child v (omega (arith, pow_pos d))) (λ u. start-at n j d (suc k) u (omega arith) lo hi)
  where
    go : Child v → ((u : ℕ) → 2 ^ d ≤ u → u < 2 ^ suc d → (stretch n u).start + (u * 2 ^ suc k - suc n) ≡ 2 * (u * 2 ^ suc k - 2 ^ j))
        → (stretch n v).start + (v * 2 ^ k - suc n) ≡ 2 * (v * 2 ^ k - 2 ^ j)
    go (left u h e) r =
        let f : 2 * u * 2 ^ k ≡ u * 2 ^ suc k = rw (pow-succ' 2 k) (omega arith) in
        rw (e, stretch-left n u h, f) (r u (omega arith) (omega arith))
    go (right u h e) r =
        let lo' : 2 ^ d ≤ u = omega arith in
        let hi' : u < 2 ^ suc d = omega arith in
        let ej' : j ≡ d + suc k = omega arith in
        let i = rw (pow-succ' 2 k) at (r u lo' hi') in
        let l = rw (pow-succ' 2 k) at (under_last j d (suc k) u ej' lo' hi').0 in
        let f : (2 * u + 1) * 2 ^ k ≡ u * (2 * 2 ^ k) + 2 ^ k = omega arith in
        rw (e, stretch-right n u h, place_at n j d k u ej' lo hi lo' hi', f) (past-left n (stretch n u).start (u * (2 * 2 ^ k)) (2 ^ k) (2 ^ j) i l)

place-full : (n r s z b q p : ℕ) → s + (z - suc n) ≡ 2 * (z - q) → suc r ≡ s + (b + min (suc n - z) b) → (2 * z + 2 * b) ≡ 2 * q + p → q ≤ z
    → suc r + (q + p / 2 - suc n) ≡ p
place-full n r s z b q p i e f l =
    let g : q + p / 2 ≡ z + b = omega (arith, f, l) in
    let h : p ≡ 2 * (z + b - q) = omega (arith, f, l) in
    rw (g, h, e) (past-left n s z b q i l)

-- In the full tree of 2 ^ (j + 1) - 1 nodes, node v with k levels below it has the place p = (2 v + 1) * 2 ^ k - 2 ^ (j + 1), counted
-- from 1. Here the missing nodes of the last level are not before it.
pub rank-at : (n j d k v p : ℕ) → j ≡ d + k → 2 ^ j ≤ n → n < 2 ^ suc j → 2 ^ d ≤ v → v < 2 ^ suc d → v ≤ n → (2 * v + 1) * 2 ^ k ≡ 2 * 2 ^ j + p
    → suc (rank n v) + (2 ^ j + p / 2 - suc n) ≡ p
rank-at n j d zero v p ej lo hi a b h e =
    let one : (stretch n v).pins ≡ 1 = omega (arith, pins-at n j d 0 v ej lo hi a b) in
    let q = rw (one, place-small 1 (omega arith)) at (rank-in n v (omega (arith, pow_pos d)) h).0 in
    omega (arith, start-at n j d 0 v ej lo hi a b)
rank-at n j d (suc k) v p ej lo hi a b h e =
    let i = rw (pow-succ' 2 k) at (start-at n j d (suc k) v ej lo hi a b) in
    let q = rw (place_at n j d k v ej lo hi a b) at (rank-in n v (omega (arith, pow_pos d)) h).0 in
    let l = rw (pow-succ' 2 k) at (under_last j d (suc k) v ej a b).0 in
    place-full n (rank n v) (stretch n v).start (v * (2 * 2 ^ k)) (2 ^ k) (2 ^ j) p i q (omega (arith, rw (pow-succ' 2 k) at e)) l

-- on the last level
pub rank-last : (n j v : ℕ) → 2 ^ j ≤ n → n < 2 ^ suc j → 2 ^ j ≤ v → v ≤ n → rank n v ≡ 2 * (v - 2 ^ j)
rank-last n j v lo hi a b = omega (arith, rank-at n j j 0 v (2 * (v - 2 ^ j) + 1) (omega arith) lo hi a (omega arith) b (omega arith))

-- a place in a full tree of m nodes, and that in a tree with one more level
place-above : (n m r s p q : ℕ) → suc m ≡ 2 * q → p ≤ 2 * q → suc r + (q + p / 2 - suc m) ≡ p → suc s + (2 * q + 2 * p / 2 - suc n) ≡ 2 * p → m < n
    → s ≡ r + min (suc r) (n - m)
place-above n m r s p q em few a b lo = omega arith

full-above : (n m j d k u : ℕ) → suc m ≡ 2 ^ suc j → m < n → n < 2 ^ suc (suc j) → 2 ^ d ≤ u → u < 2 ^ suc d → u ≤ m → j ≡ d + k
    → rank n u ≡ rank m u + min (suc (rank m u)) (n - m)
full-above n m j d k u em lo hi a b h ej =
    let p = (2 * u + 1) * 2 ^ k - 2 * 2 ^ j in
    let l = under_last j d k u ej a b in
    let e : (2 * u + 1) * 2 ^ k ≡ 2 * 2 ^ j + p = omega (arith, l) in
    let e' : (2 * u + 1) * 2 ^ suc k ≡ 2 * 2 ^ suc j + 2 * p = rw (pow-succ' 2 k, pow-succ' 2 j) (omega (arith, e)) in
    let r = rank-at m j d k u p ej (omega (arith, em, pow_pos j)) (omega (arith, em)) a b h e in
    let s = rank-at n (suc j) d (suc k) u (2 * p) (omega (arith, ej)) (omega (arith, em, lo)) hi a b (omega (arith, h, lo)) e' in
    place-above n m (rank m u) (rank n u) p (2 ^ j) (omega (arith, em)) (omega (arith, e, l)) r (rw (pow-succ' 2 j) at s) lo

-- Above it: the tree without its last level, of m pins, is full. A node's rank there is followed by that of one node of the last level,
-- as long as there is one.
pub rank-above : (n m j u : ℕ) → suc m ≡ 2 ^ suc j → m < n → n < 2 ^ suc (suc j) → 1 ≤ u → u ≤ m → rank n u ≡ rank m u + min (suc (rank m u)) (n - m)
rank-above n m j u em lo hi a b = let d = digits u a in go d.top d.least d.below (dec_lt j d.top)
  where
    go : (d : ℕ) → 2 ^ d ≤ u → u < 2 ^ suc d → Dec (j < d) → rank n u ≡ rank m u + min (suc (rank m u)) (n - m)
    go d lo' hi' (yes h) = absurd (omega (arith, pow_mono h))
    go d lo' hi' (no h) = full-above n m j d (j - d) u em lo hi lo' hi' b (omega arith)
