-- The stretches of the nodes: node v is among 1 to n exactly where its stretch has pins.
use Rattle.std.proofs.Common.{◌≡◌, ap, ◌∙◌, ◌≢◌, ◌↔◌, Bool, true, false, ℕ, zero, suc, ◌+◌, ◌-◌, ◌*◌, ◌/◌, ◌%◌, ◌^◌, ◌≤◌, ◌<◌, min, le_refl, arith}
use Rattle.std.proofs.Common.{eqb, pow_pos, pow_mono, le-ltb}
use native.Mathlib.Nat.{pow-succ'}
use native.Mathlib.Decide.{dec_lt, ℕ_discrete}
use lib.Arith.{half_le}
use Rattle.tree.specs.declared.shape.Stretch.{Stretch}
use Rattle.tree.specs.Shape.{root_place, child_of, side_of, stretch_in, stretch, rank}
use Rattle.tree.proofs.Heights.{height-step, digits, place-law, place_in, place-small}

-- ---- a stretch from its parent's

pub stretch-root : (n : ℕ) → stretch n 1 ≡ record { start = 0; pins = n }
unfolding stretch stretch_in
stretch-root n = rw (height-step 1 (le_refl 1))

pub stretch-step : (n v : ℕ) → 2 ≤ v → stretch n v ≡ side_of (eqb (v % 2) 1) (stretch n (v / 2))
unfolding stretch stretch_in
stretch-step n v h = rw (height-step v (omega arith), le-ltb v 2 h)

pub stretch-child : (n : ℕ) (right : Bool) (u : ℕ) → 1 ≤ u → stretch n (child_of right u) ≡ side_of right (stretch n u)
unfolding child_of
stretch-child n false u h =
    let e₁ : 2 * u % 2 ≡ 0 = omega arith in
    let e₂ : 2 * u / 2 ≡ u = omega arith in
    rw (stretch-step n (2 * u) (omega arith), e₁, e₂)
stretch-child n true u h =
    let e₁ : (2 * u + 1) % 2 ≡ 1 = omega arith in
    let e₂ : (2 * u + 1) / 2 ≡ u = omega arith in
    rw (stretch-step n (2 * u + 1) (omega arith), e₁, e₂)

pub stretch-left : (n u : ℕ) → 1 ≤ u → stretch n (2 * u) ≡ side_of false (stretch n u)
unfolding child_of
stretch-left n u h = stretch-child n false u h

pub stretch-right : (n u : ℕ) → 1 ≤ u → stretch n (2 * u + 1) ≡ side_of true (stretch n u)
unfolding child_of
stretch-right n u h = stretch-child n true u h

-- a number is 0 or 1, or is made from its parent's
pub data Child (v : ℕ) : Type 0 where
  left : (u : ℕ) → 1 ≤ u → v ≡ 2 * u → Child v
  right : (u : ℕ) → 1 ≤ u → v ≡ 2 * u + 1 → Child v

pub child : (v : ℕ) → 2 ≤ v → Child v
child v h = go (ℕ_discrete (v % 2) 0)
  where
    go : Dec (v % 2 ≡ 0) → Child v
    go (yes e) = left (v / 2) (omega arith) (omega arith)
    go (no e) = right (v / 2) (omega arith) (omega arith)

-- the sides of a stretch lie in it, and have fewer pins
pub side-in : (right : Bool) (s : Stretch) → 1 ≤ s.pins
    → ((side_of right s).pins < s.pins) × (s.start ≤ (side_of right s).start) × ((side_of right s).start + (side_of right s).pins ≤ s.start + s.pins)
side-in true s h = let p = place_in s.pins h in omega arith
side-in false s h = let p = place_in s.pins h in omega arith

-- ---- the pins of a stretch

-- the root's place in a stretch of so many pins
place-under : (n k u : ℕ) → suc (stretch n u).pins ≡ 2 ^ suc k + min (2 ^ suc k) (suc n - u * 2 ^ suc k)
    → (suc (stretch n u).pins ≡ 2 * 2 ^ k + min (2 * 2 ^ k) (suc n - u * (2 * 2 ^ k)))
    × (root_place (stretch n u).pins ≡ 2 ^ k + min (suc n - u * (2 * 2 ^ k)) (2 ^ k))
place-under n k u i =
    let i' = rw (pow-succ' 2 k) at i in
    (i', place-law k (stretch n u).pins (min (2 * 2 ^ k) (suc n - u * (2 * 2 ^ k))) (omega arith) (omega arith) ∙ omega arith)

-- before the place, and after it
pins-left : (n u b : ℕ) → 1 ≤ b → suc (b + min (suc n - u * (2 * b)) b - 1) ≡ b + min b (suc n - 2 * u * b)
pins-left n u b h = omega arith

pins-right : (n u b p : ℕ) → suc p ≡ 2 * b + min (2 * b) (suc n - u * (2 * b))
    → suc (p - (b + min (suc n - u * (2 * b)) b)) ≡ b + min b (suc n - (2 * u + 1) * b)
pins-right n u b p e = omega arith

-- under a node v at depth d: with k levels between it and the last, its full levels have 2 ^ k - 1 nodes, and of
-- the last level those from v * 2 ^ k on that are at most n
pub pins-at : (n j d k v : ℕ) → j ≡ d + k → 2 ^ j ≤ n → n < 2 ^ suc j → 2 ^ d ≤ v → v < 2 ^ suc d
    → suc (stretch n v).pins ≡ 2 ^ k + min (2 ^ k) (suc n - v * 2 ^ k)
pins-at n j zero k v ej lo hi a b =
    let ev : v ≡ 1 = omega arith in
    let ek : j ≡ k = omega arith in
    rw (ev, stretch-root n) (omega (arith, rw ek at lo, rw ek at hi))
pins-at n j (suc d) k v ej lo hi a b = go (child v (omega (arith, pow_pos d))) (λ u. pins-at n j d (suc k) u (omega arith) lo hi)
  where
    go : Child v → ((u : ℕ) → 2 ^ d ≤ u → u < 2 ^ suc d → suc (stretch n u).pins ≡ 2 ^ suc k + min (2 ^ suc k) (suc n - u * 2 ^ suc k))
        → suc (stretch n v).pins ≡ 2 ^ k + min (2 ^ k) (suc n - v * 2 ^ k)
    go (left u h e) r =
        let i = place-under n k u (r u (omega arith) (omega arith)) in
        rw (e, stretch-left n u h, i.1) (pins-left n u (2 ^ k) (pow_pos k))
    go (right u h e) r =
        let i = place-under n k u (r u (omega arith) (omega arith)) in
        rw (e, stretch-right n u h, i.1) (pins-right n u (2 ^ k) (stretch n u).pins i.0)

-- the place of its root, where it is not on the last level
pub place_at : (n j d k u : ℕ) → j ≡ d + suc k → 2 ^ j ≤ n → n < 2 ^ suc j → 2 ^ d ≤ u → u < 2 ^ suc d
    → root_place (stretch n u).pins ≡ 2 ^ k + min (suc n - u * (2 * 2 ^ k)) (2 ^ k)
place_at n j d k u ej lo hi a b = (place-under n k u (pins-at n j d (suc k) u ej lo hi a b)).1

-- a node with no more than one pin has no children
pins-child : (n v : ℕ) → 2 ≤ v → (stretch n (v / 2)).pins < 2 → (stretch n v).pins ≡ 0
pins-child n v h p = rw (stretch-step n v h) (go (eqb (v % 2) 1))
  where
    go : (b : Bool) → (side_of b (stretch n (v / 2))).pins ≡ 0
    go true = omega (arith, place-small (stretch n (v / 2)).pins p)
    go false = omega (arith, place-small (stretch n (v / 2)).pins p)

module _ (n j : ℕ) (lo : 2 ^ j ≤ n) (hi : n < 2 ^ suc j) where
  -- on the last level
  pins-last : (v : ℕ) → 2 ^ j ≤ v → v < 2 ^ suc j → suc (stretch n v).pins ≡ 1 + min 1 (suc n - v * 1)
  pins-last v a b = pins-at n j j 0 v (omega arith) lo hi a b

  -- above it
  pins-above : (d v : ℕ) → d < j → 2 ^ d ≤ v → v < 2 ^ suc d → 1 ≤ (stretch n v).pins
  pins-above d v dj a b =
      let e : j - d ≡ suc (j - suc d) = omega arith in
      let p : 2 ≤ 2 ^ (j - d) = rw e (omega (arith, pow_pos (j - suc d))) in
      omega (arith, pins-at n j d (j - d) v (omega arith) lo hi a b)

-- below a number past which no stretch has more than one pin, none has any
pins-under : (n w : ℕ) → 1 ≤ w → ((v : ℕ) → w ≤ v → v < 2 * w → (stretch n v).pins < 2) → (f v : ℕ) → v ≤ f → 2 * w ≤ v → (stretch n v).pins ≡ 0
pins-under n w one few zero v h a = absurd (omega arith)
pins-under n w one few (suc f) v h a =
    pins-child n v (omega arith) (go (dec_lt (v / 2) (2 * w)) (pins-under n w one few f (v / 2) (half_le h)))
  where
    go : Dec (v / 2 < 2 * w) → (2 * w ≤ v / 2 → (stretch n (v / 2)).pins ≡ 0) → (stretch n (v / 2)).pins < 2
    go (yes b) r = few (v / 2) (omega arith) b
    go (no b) r = omega (arith, r (omega arith))

-- ---- node v is among 1 to n exactly where its stretch has pins

pub pins-of-node : (n v : ℕ) → 1 ≤ v → v ≤ n → 1 ≤ (stretch n v).pins
pins-of-node n v a b =
    let m = digits n (omega arith) in
    let d = digits v a in
    go m.top m.least m.below d.top d.least d.below (dec_lt d.top m.top) (dec_lt m.top d.top)
  where
    go : (j : ℕ) → 2 ^ j ≤ n → n < 2 ^ suc j → (d : ℕ) → 2 ^ d ≤ v → v < 2 ^ suc d → Dec (d < j) → Dec (j < d) → 1 ≤ (stretch n v).pins
    go j lo hi d lo' hi' (yes h) k = pins-above n j lo hi d v h lo' hi'
    go j lo hi d lo' hi' (no h) (yes k) = absurd (omega (arith, pow_mono k))
    go j lo hi d lo' hi' (no h) (no k) =
        let e : d ≡ j = omega arith in
        omega (arith, pins-last n j lo hi v (rw e at lo') (rw e at hi'))

pub no_pins : (n v : ℕ) → n < v → (stretch n v).pins ≡ 0
no_pins zero v b = go (dec_lt v 2)
  where
    one : (v : ℕ) → v ≡ 1 → (stretch 0 v).pins ≡ 0
    one v e = rw (e, stretch-root 0)

    go : Dec (v < 2) → (stretch 0 v).pins ≡ 0
    go (yes h) = one v (omega arith)
    go (no h) = pins-under 0 1 (le_refl 1) (λ u x y. omega (arith, one u (omega arith))) v v (le_refl v) (omega arith)
no_pins (suc n) v b = let m = digits (suc n) (omega arith) in go m.top m.least m.below (dec_lt v (2 ^ suc m.top))
  where
    go : (j : ℕ) → 2 ^ j ≤ suc n → suc n < 2 ^ suc j → Dec (v < 2 ^ suc j) → (stretch (suc n) v).pins ≡ 0
    go j lo hi (yes h) = omega (arith, pins-last (suc n) j lo hi v (omega arith) h)
    go j lo hi (no h) =
        pins-under (suc n) (2 ^ j) (pow_pos j) (λ u x y. omega (arith, pins-last (suc n) j lo hi u x (omega arith))) v v (le_refl v) (omega arith)

pub node-of-pins : (n v : ℕ) → 1 ≤ (stretch n v).pins → v ≤ n
node-of-pins n v h = elim (dec_lt n v) [ yes k ↦ absurd (omega (arith, no_pins n v k)) | no k ↦ omega arith ]

pub past-nodes : (n v : ℕ) → 1 ≤ v → (stretch n v).pins ≡ 0 → n < v
past-nodes n v h e = elim (dec_lt n v) [ yes k ↦ k | no k ↦ absurd (omega (arith, pins-of-node n v h (omega arith))) ]

pub node-iff : (n v : ℕ) → 1 ≤ v → (v ≤ n) ↔ ((stretch n v).pins ≢ 0)
node-iff n v b = (λ h. omega (arith, pins-of-node n v b h), λ h. node-of-pins n v (omega arith))

-- ---- a node's rank in its stretch

pub rank-in : (n v : ℕ) → 1 ≤ v → v ≤ n → (suc (rank n v) ≡ (stretch n v).start + root_place (stretch n v).pins)
    × ((stretch n v).start ≤ rank n v) × (rank n v < (stretch n v).start + (stretch n v).pins)
unfolding rank
rank-in n v a b = let p = place_in (stretch n v).pins (pins-of-node n v a b) in omega arith

-- ---- a node's stretch, by any name

pub place-some : (n : ℕ) {u : ℕ} {here : Stretch} → 1 ≤ u → u ≤ n → stretch n u ≡ here → (1 ≤ root_place here.pins) × (root_place here.pins ≤ here.pins)
place-some n {u} {here} h k e = place_in here.pins (rw e at (pins-of-node n u h k))

pub is-child : (side : Bool) (n : ℕ) {u : ℕ} {here : Stretch} → 1 ≤ u → stretch n u ≡ here → stretch n (child_of side u) ≡ side_of side here
is-child side n {u} h e = stretch-child n side u h ∙ ap (side_of side) e

-- of two or three pins one stands before the root
pub few-place : (pins : ℕ) → 2 ≤ pins → pins ≤ 3 → root_place pins ≡ 2
few-place pins two three = place-law 0 pins (pins - 1) (omega arith) (omega arith) ∙ omega arith

pub rank_is : (n v : ℕ) {here : Stretch} → stretch n v ≡ here → rank n v ≡ here.start + root_place here.pins - 1
unfolding rank
rank_is n v e = rw e
