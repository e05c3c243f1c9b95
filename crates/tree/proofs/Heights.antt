-- The height of a tree, and the root's place by the pins of its last level.
use Rattle.std.proofs.Common.{◌≡◌, ◌∙◌, cond, ℕ, zero, suc, ◌+◌, ◌-◌, ◌*◌, ◌/◌, ◌^◌, ◌≤◌, ◌<◌, min, lt_of_not-le, arith, ltb, pow_pos, pow_mono, shr_lt}
use Rattle.std.proofs.Common.{pow-add, lt-ltb, le-ltb}
use native.Mathlib.Nat.{pow-succ'}
use native.Mathlib.Decide.{dec_lt}
use lib.Pow.{shl-shr, shr_mono}
use Rattle.codes.proofs.Promises.{least-width}
use Rattle.tree.specs.Shape.{height, root_place}

-- ---- the height

lt-pow : (n : ℕ) → n < 2 ^ n
lt-pow zero = omega arith
lt-pow (suc n) = omega (arith, lt-pow n)

pub height_bound : (n : ℕ) → n < 2 ^ height n
unfolding height
height_bound n = least-width.holds n n (lt-pow n)

-- and no less would do
pub height-le : (n k : ℕ) → n < 2 ^ k → height n ≤ k
unfolding height
height-le n k h = least-width.least n n k h

pub height-zero : height 0 ≡ 0
height-zero = omega (arith, height-le 0 0 (omega arith))

pub height-mono : (m n : ℕ) → m ≤ n → height m ≤ height n
height-mono m n h = height-le m (height n) (omega (arith, height_bound n))

pub height-above : (n k : ℕ) → 2 ^ k ≤ n → k < height n
height-above n k h = lt_of_not-le (λ l. omega (arith, pow_mono l, height_bound n))

-- the first node of the level below d others is one of the nodes
pub level-starts : (n d : ℕ) → d < height n → 2 ^ d ≤ n
level-starts n d h = elim (dec_lt n (2 ^ d)) [ yes lt ↦ absurd (omega (arith, height-le n d lt)) | no le ↦ omega arith ]

-- no other number is such a least one
pub height-unique : (n m : ℕ) → n < 2 ^ m → 2 ^ m ≤ 2 * n + 1 → height n ≡ m
height-unique n m lt le =
    let more : m < suc (height n) = lt_of_not-le (λ l. omega (arith, pow_mono l, height_bound n)) in
    omega (arith, height-le n m lt)

pub height-is : (k n : ℕ) → 2 ^ k ≤ n → n < 2 ^ suc k → height n ≡ suc k
height-is k n lo hi = height-unique n (suc k) hi (omega arith)

-- a height of k + 1 is that of the numbers with k + 1 binary digits
pub record Digits (n : ℕ) : Type 0 where
  pub top : ℕ
  pub is : height n ≡ suc top
  pub least : 2 ^ top ≤ n
  pub below : n < 2 ^ suc top

pub digits : (n : ℕ) → 1 ≤ n → Digits n
digits n h =
    let e : height n ≡ suc (height n - 1) = omega (arith, height-above n 0 h) in
    record { top = height n - 1; is = e; least = level-starts n (height n - 1) (omega (arith, height-above n 0 h)); below = rw e at (height_bound n) }

pub height-step : (n : ℕ) → 1 ≤ n → height n ≡ suc (height (n / 2))
height-step n h = height-unique n (suc (height (n / 2))) (omega (arith, height_bound (n / 2))) (low (dec_lt n 2))
  where
    low : Dec (n < 2) → 2 ^ suc (height (n / 2)) ≤ 2 * n + 1
    low (yes l) =
        let e : n / 2 ≡ 0 = omega arith in
        rw (e, height-zero) (omega arith)
    low (no l) = let d = digits (n / 2) (omega arith) in rw d.is (omega (arith, d.least))

-- the highest binary digit
pub top_digit : (n : ℕ) → 1 ≤ n → n / 2 ^ (height n - 1) ≡ 1
top_digit n h =
    let d = digits n h in
    let e : height n - 1 ≡ d.top = omega (arith, d.is) in
    let lo : 1 ≤ n / 2 ^ d.top = rw (shl-shr 1 d.top) at (shr_mono {a = 1 * 2 ^ d.top} {b = n} d.top (omega (arith, d.least))) in
    let hi : n / 2 ^ d.top < 2 = shr_lt {n = n} 1 d.top (omega (arith, d.below, pow-add 2 1 d.top)) in
    rw e (omega arith)

-- the first d + 1 digits
pub first-digits : (n d k : ℕ) → 1 ≤ n → d + suc k ≡ height n → (2 ^ d ≤ n / 2 ^ k) × (n / 2 ^ k < 2 * 2 ^ d)
first-digits n d k h e =
    let t = digits n h in
    let e' : t.top ≡ d + k = omega (arith, t.is) in
    let least : 2 ^ d * 2 ^ k ≤ n = rw (e', pow-add 2 d k) at t.least in
    let below : n < 2 ^ (suc d + k) = let s : suc (d + k) ≡ suc d + k = omega arith in rw (e', s) at t.below in
    (rw (shl-shr (2 ^ d) k) at (shr_mono {a = 2 ^ d * 2 ^ k} {b = n} k least), rw (pow-succ' 2 d) at (shr_lt {n = n} (suc d) k below))

-- ---- the root's place

-- of a number with k + 2 binary digits
place_of : (k m : ℕ) → 2 ^ suc k ≤ m → m < 2 ^ suc (suc k) → root_place m ≡ cond (ltb m (3 * 2 ^ k)) (m - 2 ^ k + 1) (2 * 2 ^ k)
unfolding root_place
place_of k m lo hi =
    let e₁ : suc (suc k) - 1 ≡ suc k = omega arith in
    let e₂ : suc (suc k) - 2 ≡ k = omega arith in
    rw (height-is (suc k) m lo hi, le-ltb m 2 (omega (arith, pow_pos k)), e₁, e₂, pow-succ' 2 k)

-- 2 ^ (h - 2), by which 01 has its two cases
pub record Half (m half : ℕ) : Type 0 where
  pub tall : 2 ≤ height m
  pub least : 2 * half ≤ m
  pub place : root_place m ≡ cond (ltb m (3 * half)) (m - half + 1) (2 * half)

pub half_of : (m : ℕ) → 2 ≤ m → Half m (2 ^ (height m - 2))
half_of m h = let d = digits m (omega arith) in go d.top d.is d.least d.below
  where
    go : (k : ℕ) → height m ≡ suc k → 2 ^ k ≤ m → m < 2 ^ suc k → Half m (2 ^ (height m - 2))
    go zero e a b = absurd (omega arith)
    go (suc k) e a b =
        let e₂ : height m - 2 ≡ k = omega arith in
        rw e₂ record { tall = omega arith; least = omega arith; place = place_of k m a b }

pub place-small : (m : ℕ) → m < 2 → root_place m ≡ m
unfolding root_place
place-small m h = rw (lt-ltb m 2 h)

-- a tree of 2 ^ (k + 1) - 1 pins and e more on its last level, of 2 ^ (k + 1) at most
pub place-law : (k m e : ℕ) → suc m ≡ 2 ^ suc k + e → e ≤ 2 ^ suc k → root_place m ≡ 2 ^ k + min e (2 ^ k)
place-law zero m zero em he = place-small m (omega arith) ∙ (omega arith)
place-law (suc k) m zero em he =
    rw (place_of k m (omega (arith, pow_pos (suc k))) (omega (arith, pow_pos (suc k))), le-ltb m (3 * 2 ^ k) (omega (arith, pow_pos k)))
    (omega arith)
place-law k m (suc e) em he = go (dec_lt m (3 * 2 ^ k))
  where
    place : root_place m ≡ cond (ltb m (3 * 2 ^ k)) (m - 2 ^ k + 1) (2 * 2 ^ k)
    place = place_of k m (omega arith) (omega arith)

    go : Dec (m < 3 * 2 ^ k) → root_place m ≡ 2 ^ k + min (suc e) (2 ^ k)
    go (yes h) = rw (place, lt-ltb m (3 * 2 ^ k) h) (omega arith)
    go (no h) = rw (place, le-ltb m (3 * 2 ^ k) (omega arith)) (omega arith)

-- the root is in its list
pub place_in : (m : ℕ) → 1 ≤ m → (1 ≤ root_place m) × (root_place m ≤ m)
place_in m h = let d = digits m h in go d.top d.least d.below
  where
    go : (k : ℕ) → 2 ^ k ≤ m → m < 2 ^ suc k → (1 ≤ root_place m) × (root_place m ≤ m)
    go zero a b = rw (place-small m (omega arith)) (omega arith)
    go (suc k) a b = rw (place-law k m (suc m - 2 ^ suc k) (omega arith) (omega arith)) (omega (arith, pow_pos k))
