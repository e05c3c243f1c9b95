-- The layers of a chunked code: which values go on, and the equation of the code without the number of layers.
use Rattle.std.proofs.Common.{◌≡◌, ℕ, zero, suc, ◌+◌, ◌/◌, ◌^◌, ◌<◌, ◌≤◌, Bool, true, false, cond, eqb, List, [], ◌∷◌, ◌++◌, map, length, get_or, take, sym, refl, ap, lt_of_lt_of_le, le_of_suc-le-suc, not-suc-le-zero, suc-add, zero-add, arith, pow_pos, pow_mono, shr_lt, eq-eqb}
use native.Mathlib.Nat.{div-eq_of_lt}
use Rattle.codes.specs.Bits.{sum, fixed}
use Rattle.codes.specs.Codes.{continuation, rest, layers, chunked, Within}
use Rattle.codes.proofs.Bits.{within-append, bits-fixed}

-- ---- the continuation bits and what is left

-- the ones among the continuation bits are as many as the values left
pub sum-continuations : (b : ℕ) (vs : List ℕ) → sum (map (continuation b) vs) ≡ length (rest b vs)
unfolding sum rest
sum-continuations b [] = refl
sum-continuations b (v ∷ vs) = go (eqb (v / 2 ^ b) 0) (sum-continuations b vs)
  where
    go : (t : Bool) → sum (map (continuation b) vs) ≡ length (rest b vs)
        → cond t 0 1 + sum (map (continuation b) vs) ≡ length (cond t (rest b vs) (v / 2 ^ b ∷ rest b vs))
    go true e = omega arith
    go false e = omega arith

-- value j, where it goes on, is left at the place that the ones before j count
pub rest_at : (b : ℕ) (vs : List ℕ) (j : ℕ) → j < length vs → eqb (get_or vs j 0 / 2 ^ b) 0 ≡ false
    → (sum (take j (map (continuation b) vs)) < length (rest b vs)) × (get_or (rest b vs) (sum (take j (map (continuation b) vs))) 0 ≡ get_or vs j 0 / 2 ^ b)
unfolding sum rest
rest_at b [] j h e = absurd (not-suc-le-zero h)
rest_at b (v ∷ vs) zero h e = rw e (omega arith, refl)
rest_at b (v ∷ vs) (suc j) h e = go (eqb (v / 2 ^ b) 0) (sum (take j (map (continuation b) vs))) (rest_at b vs j (le_of_suc-le-suc h) e)
  where
    go : (t : Bool) (s : ℕ) → (s < length (rest b vs)) × (get_or (rest b vs) s 0 ≡ get_or vs j 0 / 2 ^ b)
        → (cond t 0 1 + s < length (cond t (rest b vs) (v / 2 ^ b ∷ rest b vs)))
        × (get_or (cond t (rest b vs) (v / 2 ^ b ∷ rest b vs)) (cond t 0 1 + s) 0 ≡ get_or vs j 0 / 2 ^ b)
    go true s p = rw (zero-add s) p
    go false s p = rw (suc-add 0 s, zero-add s) (omega arith, p.1)

pub rest-append : (b : ℕ) (xs ys : List ℕ) → rest b (xs ++ ys) ≡ rest b xs ++ rest b ys
unfolding rest
rest-append b [] ys = refl
rest-append b (x ∷ xs) ys = rw (rest-append b xs ys) (go (eqb (x / 2 ^ b) 0))
  where
    go : (t : Bool) → cond t (rest b xs ++ rest b ys) (x / 2 ^ b ∷ (rest b xs ++ rest b ys)) ≡ cond t (rest b xs) (x / 2 ^ b ∷ rest b xs) ++ rest b ys
    go true = refl
    go false = refl

-- a chunk takes at least one bit off
pub div-lt : (b f x : ℕ) → 1 ≤ b → x < 2 ^ suc f → x / 2 ^ b < 2 ^ f
div-lt b f x hb hx = shr_lt f b (lt_of_lt_of_le hx (pow_mono (omega arith)))

pub within-rest : (b f : ℕ) (vs : List ℕ) → 1 ≤ b → Within (suc f) vs → Within f (rest b vs)
unfolding rest
within-rest b f [] hb h j = pow_pos f
within-rest b f (v ∷ vs) hb h j = go (eqb (v / 2 ^ b) 0) j (within-rest b f vs hb (λ i. h (suc i)))
  where
    go : (t : Bool) (i : ℕ) → Within f (rest b vs) → get_or (cond t (rest b vs) (v / 2 ^ b ∷ rest b vs)) i 0 < 2 ^ f
    go true i k = k i
    go false zero k = div-lt b f v hb (h 0)
    go false (suc i) k = k i

pub within_more : (f g : ℕ) (vs : List ℕ) → f ≤ g → Within f vs → Within g vs
within_more f g vs l h j = lt_of_lt_of_le (h j) (pow_mono l)

-- of values of at most t bits nothing is left above them
pub rest-none : (t : ℕ) (vs : List ℕ) → Within t vs → rest t vs ≡ []
unfolding rest
rest-none t [] h = refl
rest-none t (v ∷ vs) h = rw (eq-eqb (v / 2 ^ t) 0 (div-eq_of_lt (h 0)), rest-none t vs (λ j. h (suc j)))

-- ---- the code without the number of layers

pub layers-nil : (f b : ℕ) → layers f b [] ≡ []
unfolding layers fixed rest
layers-nil zero b = refl
layers-nil (suc f) b = layers-nil f b

-- more layers than bits add nothing
layers-enough : (f b : ℕ) (vs : List ℕ) → 1 ≤ b → Within (suc f) vs → layers (suc (suc f)) b vs ≡ layers (suc f) b vs
unfolding layers
layers-enough zero b vs hb h = rw (rest-none b vs (within_more 1 b vs hb h), layers-nil 1 b)
layers-enough (suc f) b vs hb h = ap (λ (l : List ℕ). map (continuation b) vs ++ (fixed b vs ++ l)) (layers-enough f b (rest b vs) hb (within-rest b (suc f) vs hb h))

pub chunked-step : (b : ℕ) (vs : List ℕ) → 1 ≤ b → Within 32 vs → chunked b vs ≡ map (continuation b) vs ++ (fixed b vs ++ chunked b (rest b vs))
unfolding layers
chunked-step b vs hb h = ap (λ (l : List ℕ). map (continuation b) vs ++ (fixed b vs ++ l)) (sym (layers-enough 30 b (rest b vs) hb (within-rest b 31 vs hb h)))

-- ---- its elements are bits

pub bits-continuations : (b : ℕ) (vs : List ℕ) → Within 1 (map (continuation b) vs)
bits-continuations b [] j = omega arith
bits-continuations b (v ∷ vs) zero = go (eqb (v / 2 ^ b) 0)
  where
    go : (t : Bool) → cond t 0 1 < 2
    go true = omega arith
    go false = omega arith
bits-continuations b (v ∷ vs) (suc j) = bits-continuations b vs j

pub bits-layers : (f b : ℕ) (vs : List ℕ) → Within 1 (layers f b vs)
unfolding layers
bits-layers zero b vs j = omega arith
bits-layers (suc f) b vs j =
    within-append 1 (map (continuation b) vs) (fixed b vs ++ layers f b (rest b vs)) (bits-continuations b vs)
    (within-append 1 (fixed b vs) (layers f b (rest b vs)) (bits-fixed b vs) (bits-layers f b (rest b vs))) j
