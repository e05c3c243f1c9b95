-- Bits and the numbers that they spell.
use Rattle.std.proofs.Common.{◌≡◌, ℕ, zero, suc, ◌+◌, ◌*◌, ◌/◌, ◌%◌, ◌^◌, ◌<◌, ◌≤◌, List, [], ◌∷◌, ◌++◌, length, get_or, take, drop, replicate, sym, refl, ap, ◌∙◌, append_assoc, lt_of_lt_of_le, le_of_suc-le-suc, not-suc-le-zero, mod-eq_of_lt, add_comm, suc-add, pow-suc, zero-add, zero-mul, one-add, arith, length-append, length-drop, take-append-drop, length-take, length-take-le, get_or-drop, drop-drop, take_at, ext_get_or, take-add, drop_at, pow_pos, pow_mono, pow-add, shr-shr}
use Rattle.std.proofs.lemmas.Nat.{mod-pow-add}
use native.Mathlib.Nat.{mod-one, mul-add-div_right, mul-add-mod_self_right}
use lib.Pow.{high, low, split}
use lib.Arith.{digits_lt}
use Rattle.codes.specs.Bits.{bits, number, sum, fixed, numbers, bytes_for, padded}
use Rattle.codes.specs.Codes.{Within}

-- ---- elements of at most w bits; those of bits have at most one

pub within-append : (w : ℕ) (xs ys : List ℕ) → Within w xs → Within w ys → Within w (xs ++ ys)
within-append w [] ys h k j = k j
within-append w (x ∷ xs) ys h k zero = h 0
within-append w (x ∷ xs) ys h k (suc j) = within-append w xs ys (λ i. h (suc i)) k j

pub within-take : (w n : ℕ) (vs : List ℕ) → Within w vs → Within w (take n vs)
within-take w zero vs h j = pow_pos w
within-take w (suc n) [] h j = pow_pos w
within-take w (suc n) (v ∷ vs) h zero = h 0
within-take w (suc n) (v ∷ vs) h (suc j) = within-take w n vs (λ i. h (suc i)) j

pub within-drop : (w n : ℕ) (vs : List ℕ) → Within w vs → Within w (drop n vs)
within-drop w n vs h j = rw get_or-drop (h (n + j))

pub bits-bits : (w x : ℕ) → Within 1 (bits w x)
unfolding bits
bits-bits zero x j = omega arith
bits-bits (suc w) x zero = omega arith
bits-bits (suc w) x (suc j) = bits-bits w x j

pub bits-fixed : (w : ℕ) (vs : List ℕ) → Within 1 (fixed w vs)
unfolding fixed
bits-fixed w [] j = omega arith
bits-fixed w (v ∷ vs) j = within-append 1 (bits w v) (fixed w vs) (bits-bits w v) (bits-fixed w vs) j

-- ---- lengths

pub length-bits : (w x : ℕ) → length (bits w x) ≡ w
unfolding bits
length-bits zero x = refl
length-bits (suc w) x = ap suc (length-bits w x)

pub length-fixed : (w : ℕ) (vs : List ℕ) → length (fixed w vs) ≡ length vs * w
unfolding fixed
length-fixed w [] = sym (zero-mul w)
length-fixed w (v ∷ vs) = simp (length-append, length-bits, length-fixed w vs) (omega arith)

-- ---- what bits spell

pub number-bits : (w x : ℕ) → number (bits w x) ≡ x % 2 ^ w
unfolding number bits
number-bits zero x = sym (mod-one x)
number-bits (suc w) x = simp (length-bits w x, number-bits w x) (sym (rw one-add at (mod-pow-add x 1 w)))

pub number_append : (xs ys : List ℕ) → number (xs ++ ys) ≡ number xs * 2 ^ length ys + number ys
unfolding number
number_append [] ys = omega arith
number_append (x ∷ xs) ys = simp (number_append xs ys, length-append xs ys, pow-add) (omega arith)

pub number_lt : (bs : List ℕ) {n : ℕ} → Within 1 bs → length bs ≡ n → number bs < 2 ^ n
unfolding number
number_lt [] h e = rw (← e) (omega arith)
number_lt (b ∷ bs) h e = rw (← e, ← (one-add (length bs)), pow-add) (digits_lt {c = 2 ^ length bs} (h 0) (number_lt bs (λ j. h (suc j)) refl))

-- bits spell 0 where each is 0
pub number-zero : (bs : List ℕ) → number bs ≡ 0 → (j : ℕ) → get_or bs j 0 ≡ 0
unfolding number
number-zero [] e j = refl
number-zero (b ∷ bs) e zero = none b (omega arith)
  where
    none : (b : ℕ) → b * 2 ^ length bs ≡ 0 → b ≡ 0
    none zero h = refl
    none (suc b) h = absurd (omega (arith, pow_pos (length bs)))
number-zero (b ∷ bs) e (suc j) = number-zero bs (omega arith) j

pub zeros-number : (bs : List ℕ) → ((j : ℕ) → get_or bs j 0 ≡ 0) → number bs ≡ 0
unfolding number
zeros-number [] h = refl
zeros-number (b ∷ bs) h = rw (h 0, zeros-number bs (λ j. h (suc j))) (omega arith)

-- bits w looks only at the w lowest bits
pub bits-low : (w a x : ℕ) → bits w (a * 2 ^ w + x) ≡ bits w x
unfolding bits
bits-low zero a x = refl
bits-low (suc w) a x =
    let e : a * 2 ^ suc w + x ≡ a * 2 * 2 ^ w + x = rw pow-suc (omega arith) in
    rw (e, mul-add-div_right (pow_pos w) (a * 2) x, mul-add-mod_self_right a 2 (x / 2 ^ w), bits-low w (a * 2) x)

pub bits-number : (bs : List ℕ) {n : ℕ} → Within 1 bs → length bs ≡ n → bits n (number bs) ≡ bs
unfolding bits number
bits-number [] h e = rw (← e)
bits-number (b ∷ bs) h e =
    let t : Within 1 bs = λ j. h (suc j) in
    rw (← e, high b (length bs) (number_lt bs t refl), mod-eq_of_lt (h 0), bits-low (length bs) b (number bs), bits-number bs t refl)

-- ---- fixed codes

pub fixed-append : (w : ℕ) (xs ys : List ℕ) → fixed w (xs ++ ys) ≡ fixed w xs ++ fixed w ys
unfolding fixed
fixed-append w [] ys = refl
fixed-append w (x ∷ xs) ys = rw (append_assoc (bits w x) (fixed w xs) (fixed w ys), fixed-append w xs ys)

-- value j of a fixed code
pub fixed-at : (w : ℕ) (vs : List ℕ) (j : ℕ) (pad : List ℕ) → j < length vs → take w (drop (j * w) (fixed w vs ++ pad)) ≡ bits w (get_or vs j 0)
unfolding fixed
fixed-at w [] j pad h = absurd (not-suc-le-zero h)
fixed-at w (v ∷ vs) zero pad h =
    rw (zero-mul w, append_assoc (bits w v) (fixed w vs) pad, take_at (bits w v) (fixed w vs ++ pad) w (length-bits w v))
fixed-at w (v ∷ vs) (suc j) pad h =
    let e : suc j * w ≡ w + j * w = omega arith in
    rw (e, append_assoc (bits w v) (fixed w vs) pad, ← (drop-drop (j * w) w (bits w v ++ (fixed w vs ++ pad))), drop_at (bits w v) (fixed w vs ++ pad) w (length-bits w v), fixed-at w vs j pad (le_of_suc-le-suc h))

-- value j of a fixed code, as a number
pub fixed-fetch : (w : ℕ) (vs : List ℕ) (j : ℕ) (pad : List ℕ) → j < length vs → get_or vs j 0 < 2 ^ w
    → number (take w (drop (j * w) (fixed w vs ++ pad))) ≡ get_or vs j 0
fixed-fetch w vs j pad h k = rw (fixed-at w vs j pad h, number-bits w (get_or vs j 0), mod-eq_of_lt k)

-- bits of a fixed code are those of one list of so many values
pub fixed_same : (w : ℕ) (xs ys : List ℕ) → length xs ≡ length ys → Within w xs → Within w ys → fixed w xs ≡ fixed w ys → xs ≡ ys
fixed_same w xs ys l h k e =
    ext_get_or 0 xs ys l (λ j i. sym (fixed-fetch w xs j [] i (h j)) ∙ rw e (fixed-fetch w ys j [] (rw l at i) (k j)))

-- ---- the bits of a number, in two parts

pub bits-split : (m h x : ℕ) → bits (m + h) x ≡ bits m (x / 2 ^ h) ++ bits h x
unfolding bits
bits-split zero h x = ap (λ (k : ℕ). bits k x) (zero-add h)
bits-split (suc m) h x =
    let e : x / 2 ^ h / 2 ^ m ≡ x / 2 ^ (m + h) = rw (add_comm m h) (shr-shr x h m) in
    rw (suc-add m h, e, bits-split m h x)

pub bits-mod : (w x : ℕ) → bits w (x % 2 ^ w) ≡ bits w x
bits-mod w x = sym (bits-low w (x / 2 ^ w) (x % 2 ^ w)) ∙ ap (bits w) (split x w)

-- ---- ones

pub sum-take-suc : (bs : List ℕ) (i : ℕ) → i < length bs → sum (take (suc i) bs) ≡ sum (take i bs) + get_or bs i 0
unfolding sum
sum-take-suc [] i h = absurd (not-suc-le-zero h)
sum-take-suc (b ∷ bs) zero h = omega arith
sum-take-suc (b ∷ bs) (suc i) h = omega (arith, sum-take-suc bs i (le_of_suc-le-suc h))

sum-append : (xs ys : List ℕ) → sum (xs ++ ys) ≡ sum xs + sum ys
unfolding sum
sum-append [] ys = omega arith
sum-append (x ∷ xs) ys = omega (arith, sum-append xs ys)

-- the ones, part by part
pub sum-take-add : (n m : ℕ) (bs : List ℕ) → sum (take (n + m) bs) ≡ sum (take n bs) + sum (take m (drop n bs))
sum-take-add n m bs = rw (take-add n m bs) (sum-append (take n bs) (take m (drop n bs)))

pub sum-le : (bs : List ℕ) (n : ℕ) → Within 1 bs → sum (take n bs) ≤ n
unfolding sum
sum-le bs zero h = omega arith
sum-le [] (suc n) h = omega arith
sum-le (b ∷ bs) (suc n) h = omega (arith, h 0, sum-le bs n (λ j. h (suc j)))

-- ---- bits to numbers and back

pub numbers-bits : (w k : ℕ) (bs : List ℕ) → Within 1 bs → k * w ≤ length bs → fixed w (numbers w k bs) ≡ take (k * w) bs
unfolding fixed numbers
numbers-bits w zero bs h l = ap (λ (m : ℕ). take m bs) (sym (zero-mul w))
numbers-bits w (suc k) bs h l =
    let e : suc k * w ≡ w + k * w = omega arith in
    let b = bits-number (take w bs) (within-take 1 w bs h) (length-take-le w bs (omega arith)) in
    rw (e, take-add w (k * w) bs, b, numbers-bits w k (drop w bs) (within-drop 1 w bs h) (simp length-drop (omega arith)))

pub length-numbers : (w n : ℕ) (bs : List ℕ) → length (numbers w n bs) ≡ n
unfolding numbers
length-numbers w zero bs = refl
length-numbers w (suc n) bs = ap suc (length-numbers w n (drop w bs))

pub length-padded : (bs : List ℕ) → length (padded bs) ≡ bytes_for (length bs)
unfolding padded
length-padded bs = length-numbers 8 (bytes_for (length bs)) (bs ++ replicate 7 0)

-- ---- a part of bits, as a number

number-mid : (a m z : List ℕ) → Within 1 m → Within 1 z → number (a ++ (m ++ z)) / 2 ^ length z % 2 ^ length m ≡ number m
number-mid a m z hm hz =
    let s : number (a ++ (m ++ z)) ≡ (number a * 2 ^ length m + number m) * 2 ^ length z + number z =
    simp (number_append, length-append, pow-add) (omega arith) in
    rw (s, high (number a * 2 ^ length m + number m) (length z) (number_lt z hz refl), low (number a) (length m) (number_lt m hm refl))

pub number-part : (bs : List ℕ) (p w r : ℕ) → Within 1 bs → p + w + r ≡ length bs → number (take w (drop p bs)) ≡ number bs / 2 ^ r % 2 ^ w
number-part bs p w r h e =
    let d = drop p bs in
    let hd = within-drop 1 p bs h in
    let lm : length (take w d) ≡ w = length-take-le w d (simp length-drop (omega arith)) in
    let lz : length (drop w d) ≡ r = simp length-drop (omega arith) in
    sym (rw (lm, lz, take-append-drop w d, take-append-drop p bs) at
    (number-mid (take p bs) (take w d) (drop w d) (within-take 1 w d hd) (within-drop 1 w d hd)))

-- w bits spell less than 2 ^ w
pub number-take-lt : (bs : List ℕ) (w : ℕ) → Within 1 bs → number (take w bs) < 2 ^ w
number-take-lt bs w h =
    let l : length (take w bs) ≤ w = simp length-take (omega arith) in
    lt_of_lt_of_le (number_lt (take w bs) (within-take 1 w bs h) refl) (pow_mono l)

pub within-numbers : (w n : ℕ) (bs : List ℕ) → Within 1 bs → Within w (numbers w n bs)
unfolding numbers
within-numbers w zero bs h j = pow_pos w
within-numbers w (suc n) bs h zero = number-take-lt bs w h
within-numbers w (suc n) bs h (suc j) = within-numbers w n (drop w bs) (within-drop 1 w bs h) j

-- a bit, read as a number
pub number-one : (bs : List ℕ) (k : ℕ) → k < length bs → number (take 1 (drop k bs)) ≡ get_or bs k 0
unfolding number
number-one [] k h = absurd (omega arith)
number-one (x ∷ bs) zero h = omega arith
number-one (x ∷ bs) (suc k) h = number-one bs k (omega arith)
