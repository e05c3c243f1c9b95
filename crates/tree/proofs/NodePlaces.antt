-- The stretches of missing children, and the node of a rank: in the full tree of 2 ^ (j + 1) - 1 nodes, of which some of the last level may
-- be missing here, a node with k levels below it has the place (2 m + 1) * 2 ^ k, counted from 1, where m nodes are before it on its level.
use Rattle.std.proofs.Common.{◌≡◌, refl, sym, ap, ◌∙◌, ℕ, zero, suc, ◌+◌, ◌-◌, ◌*◌, ◌/◌, ◌%◌, ◌^◌, ◌≤◌, ◌<◌, lt_of_not-le, arith, pow_pos, pow_mono}
use Rattle.std.proofs.Common.{pow-add, shr_lt}
use native.Mathlib.Nat.{pow-succ', div-div-eq-div-mul}
use lib.Count.{count_trailing_zeros, under}
use lib.Pow.{high}
use Rattle.tree.specs.Shape.{height, stretch, rank}
use Rattle.tree.proofs.Heights.{height-zero, digits, place-small}
use Rattle.tree.proofs.Stretches.{stretch-root, stretch-left, stretch-right, Child, left, right, child, pins-at}
use Rattle.tree.proofs.LevelRanks.{start-at, rank-at}

-- ---- missing children

module _ (n j : ℕ) (lo : 2 ^ j ≤ n) (hi : n < 2 ^ suc j) where
  start-last : (v : ℕ) → 2 ^ j ≤ v → v < 2 ^ suc j → (stretch n v).start + (v - suc n) ≡ 2 * (v - 2 ^ j)
  start-last v a b = omega (arith, start-at n j j 0 v (omega arith) lo hi a b)

  pins-one : (u : ℕ) → 2 ^ j ≤ u → u ≤ n → (stretch n u).pins ≡ 1
  pins-one u a l = omega (arith, pins-at n j j 0 u (omega arith) lo hi a (omega arith))

  start-below : {v : ℕ} → Child v → v / 2 ≤ n → 2 ^ suc j ≤ v → (stretch n v).start + 2 ^ suc j ≡ v
  start-below (left u h e) l a = rw (e, stretch-left n u h) (omega (arith, start-last u (omega arith) (omega arith)))
  start-below (right u h e) l a =
      rw (e, stretch-right n u h, pins-one u (omega arith) (omega arith), place-small 1 (omega arith)) (omega (arith, start-last u (omega arith) (omega arith)))

-- where the stretch of one on the last level starts
pub missing-last : (n v : ℕ) → n < v → v < 2 ^ height n → (stretch n v).start + 2 ^ height n ≡ v + n + 1
missing-last zero v m b = absurd (omega (arith, rw height-zero at b))
missing-last (suc n) v m b =
    let d = digits (suc n) (omega arith) in
    rw d.is (omega (arith, start-last (suc n) d.top d.least d.below v (omega (arith, d.least)) (rw d.is at b), d.least, d.below))

-- and of one below it
pub missing-below : (n v : ℕ) → n < v → v / 2 ≤ n → 2 ^ height n ≤ v → (stretch n v).start + 2 ^ height n ≡ v
missing-below zero v m l a =
    let one : v ≡ 1 = omega arith in
    rw (one, stretch-root 0, height-zero)
missing-below (suc n) v m l a =
    let d = digits (suc n) (omega arith) in
    rw d.is (start-below (suc n) d.top d.least d.below (child v (omega arith)) l (rw d.is at a))

-- ---- the node of a rank

-- below its lowest set digit a number has zeros
pub trailing : (d p : ℕ) → 1 ≤ p → p < 2 ^ d → let k = count_trailing_zeros d p in p ≡ p / 2 ^ suc k * 2 ^ suc k + 2 ^ k
unfolding count_trailing_zeros
trailing zero p h l = absurd (omega arith)
trailing (suc d) p h l = go (p % 2) refl (λ e. trailing d (p / 2) (omega arith) (omega arith))
  where
    go : (r : ℕ) → p % 2 ≡ r → (p % 2 ≡ 0 → let k = count_trailing_zeros d (p / 2) in p / 2 ≡ p / 2 / 2 ^ suc k * 2 ^ suc k + 2 ^ k)
        → let k = under r (count_trailing_zeros d (p / 2)) in p ≡ p / 2 ^ suc k * 2 ^ suc k + 2 ^ k
    go zero e half =
        let k = count_trailing_zeros d (p / 2) in
        rw (pow-succ' 2 (suc k), ← (div-div-eq-div-mul p 2 (2 ^ suc k)), pow-succ' 2 k) (omega (arith, rw (pow-succ' 2 k) at (half e)))
    go (suc r) e half = omega arith

half-more : (x k : ℕ) → x * 2 ^ suc k + 2 ^ k ≡ (2 * x + 1) * 2 ^ k
half-more x k = rw (pow-succ' 2 k) (omega arith)

module _ (n j i p k : ℕ) (lo : 2 ^ j ≤ n) (hi : n < 2 ^ suc j) (among : i < n) (placed : p ≡ suc i + (suc i - 2 * (suc n - 2 ^ j))) where
  -- a node's place says its rank
  ranked-at : (d v : ℕ) → j ≡ d + k → 2 ^ d ≤ v → v < 2 ^ suc d → (2 * v + 1) * 2 ^ k ≡ 2 * 2 ^ j + p → (1 ≤ v) × (v ≤ n) × (rank n v ≡ i)
  ranked-at d v e a b sum = let h : v ≤ n = go k e sum in (omega (arith, a, pow_pos d), h, omega (arith, rank-at n j d k v p e lo hi a b h sum))
    where
      go : (k : ℕ) → j ≡ d + k → (2 * v + 1) * 2 ^ k ≡ 2 * 2 ^ j + p → v ≤ n
      go zero e sum = omega arith
      go (suc k) e sum =
          let up : suc d ≤ j = omega arith in
          omega (arith, pow_mono up)

  module _ (odd : p ≡ p / 2 ^ suc k * 2 ^ suc k + 2 ^ k) where
    -- no place is past the full tree, so its node is on some level
    depth-of : k ≤ j
    depth-of = let less : k < suc j = lt_of_not-le (λ h. omega (arith, pow_mono h, odd)) in omega arith

    -- the node with k levels below it and m before it on its level
    pub node-ranked : let v = (2 * 2 ^ j + p) / 2 ^ suc k in (1 ≤ v) × (v ≤ n) × (rank n v ≡ i)
    node-ranked =
        let d = j - k in
        let e : j ≡ d + k = omega (arith, depth-of) in
        let e' : suc j ≡ d + suc k = omega (arith, e) in
        let whole : 2 * 2 ^ j ≡ 2 ^ d * 2 ^ suc k = sym (pow-succ' 2 j) ∙ ap (λ (x : ℕ). 2 ^ x) e' ∙ pow-add 2 d (suc k) in
        let m = p / 2 ^ suc k in
        let sum : 2 * 2 ^ j + p ≡ (2 ^ d + m) * 2 ^ suc k + 2 ^ k = omega (arith, whole, odd) in
        let less : m < 2 ^ d = shr_lt d (suc k) (rw (← e') (omega arith)) in
        let ev : (2 * 2 ^ j + p) / 2 ^ suc k ≡ 2 ^ d + m = ap (λ (x : ℕ). x / 2 ^ suc k) sum ∙ high (2 ^ d + m) (suc k) (omega (arith, pow_pos k)) in
        rw ev (ranked-at d (2 ^ d + m) e (omega arith) (omega (arith, less)) (sym (sum ∙ half-more (2 ^ d + m) k)))
