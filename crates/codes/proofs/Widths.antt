-- Widths: the bits of a value up to its highest one bit, and the least width that holds every value.
use Rattle.std.proofs.Common.{◌≡◌, ℕ, zero, suc, ◌+◌, ◌-◌, ◌/◌, ◌^◌, ◌<◌, ◌≤◌, List, [], ◌∷◌, refl, lt_of_lt_of_le, lt_of_le_of_lt, div-lt_iff_lt-mul, le_antisymm, lt_of_not-le, arith, pow_pos, pow_mono, pow-add, shr_lt, ne_eqb}
use Rattle.std.proofs.lemmas.Nat.{shr_le}
use native.Mathlib.Nat.{le-max_left, le-max_right, div-eq_of_lt}
use lib.Count.{count_leading_zeros}
use Rattle.codes.specs.Codes.{Within}
use Rattle.codes.specs.Choice.{width_in, width, widest}

pub width-zeros : (f v : ℕ) → width_in f v + count_leading_zeros f v ≡ f
unfolding width_in count_leading_zeros
width-zeros zero v = refl
width-zeros (suc f) zero = omega arith
width-zeros (suc f) (suc v) = rw (ne_eqb (suc v) 0 (omega arith)) (omega (arith, width-zeros f (suc v / 2)))

pub width-holds : (f v : ℕ) → v < 2 ^ f → v < 2 ^ width_in f v
unfolding width_in
width-holds zero v h = h
width-holds (suc f) zero h = omega arith
width-holds (suc f) (suc v) h =
    let e : suc v < 2 ^ suc (width_in f (suc v / 2)) = omega (arith, width-holds f (suc v / 2) (omega arith)) in
    rw (ne_eqb (suc v) 0 (omega arith)) e

pub width-least : (f v w : ℕ) → v < 2 ^ w → width_in f v ≤ w
unfolding width_in
width-least zero v w h = omega arith
width-least (suc f) zero w h = omega arith
width-least (suc f) (suc v) zero h = absurd (omega arith)
width-least (suc f) (suc v) (suc w) h = rw (ne_eqb (suc v) 0 (omega arith)) (omega (arith, width-least f (suc v / 2) w (omega arith)))

-- a shift by t leaves nothing exactly of the values of at most t bits

pub shr-none : (t v : ℕ) → v / 2 ^ t ≡ 0 → v < 2 ^ t
shr-none t v e =
    let l : v / 2 ^ t < 1 = omega arith in
    omega (arith, (div-lt_iff_lt-mul {k = 2 ^ t} {x = v} {y = 1} (pow_pos t)).0 l)

pub width-ends : (f t v : ℕ) → v / 2 ^ t ≡ 0 → width_in f v ≤ t
width-ends f t v e = width-least f v t (shr-none t v e)

pub width-goes : (f t v : ℕ) → v < 2 ^ f → (v / 2 ^ t ≡ 0 → ⊥) → t < width_in f v
width-goes f t v h n = lt_of_not-le (λ k. n (div-eq_of_lt (lt_of_lt_of_le (width-holds f v h) (pow_mono k))))

-- a shift takes its bits off
pub width-shr : (f b v : ℕ) → v < 2 ^ f → width_in f (v / 2 ^ b) ≡ width_in f v - b
width-shr f b v h =
    let w = width_in f v in
    let w' = width_in f (v / 2 ^ b) in
    let up : v < 2 ^ (w' + b) = rw (pow-add 2 w' b) ((div-lt_iff_lt-mul (pow_pos b)).0 (width-holds f (v / 2 ^ b) (lt_of_le_of_lt (shr_le v b) h))) in
    let down : v < 2 ^ (w - b + b) = lt_of_lt_of_le (width-holds f v h) (pow_mono {i = w} {j = w - b + b} (omega arith)) in
    let most : w ≤ w' + b = width-least f v (w' + b) up in
    le_antisymm (width-least f (v / 2 ^ b) (w - b) (shr_lt (w - b) b down)) (omega arith)

-- ---- of all values

pub widest-holds : (vs : List ℕ) → Within 32 vs → Within (widest vs) vs
unfolding widest
widest-holds [] h j = omega arith
widest-holds (v ∷ vs) h zero = lt_of_lt_of_le (width-holds 32 v (h 0)) (pow_mono (le-max_left (width v) (widest vs)))
widest-holds (v ∷ vs) h (suc j) = lt_of_lt_of_le (widest-holds vs (λ i. h (suc i)) j) (pow_mono (le-max_right (width v) (widest vs)))

pub widest-least : (vs : List ℕ) (w : ℕ) → Within w vs → widest vs ≤ w
unfolding widest
widest-least [] w h = omega arith
widest-least (v ∷ vs) w h = omega (arith, width-least 32 v w (h 0), widest-least vs w (λ j. h (suc j)))

pub widest-le : (vs : List ℕ) → widest vs ≤ 32
unfolding widest
widest-le [] = omega arith
widest-le (v ∷ vs) = omega (arith, width-zeros 32 v, widest-le vs)
