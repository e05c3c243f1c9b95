-- Numbers in decimal: how many digits they have.
use mathlib.Core.Path.{◌≡◌, refl, ◌∙◌}
use mathlib.Core.List.{[], ◌∷◌}
use Prim.Native.Nat.{ℕ, zero, suc, ◌-◌, ◌/◌, ◌%◌, ◌^◌, ◌≤◌, ◌<◌}
use native.Mathlib.Nat.{pow-succ', pow-le-pow_right}
use native.Mathlib.Decide.{dec_lt}
use native.Mathlib.Omega.{arith}
use lib.ListN.{length, length-append}
use borrow.Author.Tests.{lt-ltb, le-ltb}
use Rattle.io.specs.Digits.{last_digits, hex_digit_ascii, IsDigitCount}
use Rattle.pinlist.specs.Texts.{places_in, decimal}
use Rattle.pinlist.specs.Promises.{FewestDigits}

length_digits : (k n : ℕ) → length (last_digits 10 k n) ≡ k
length_digits zero n = refl
length_digits (suc k) n = length-append (last_digits 10 k (n / 10)) (hex_digit_ascii (n % 10) ∷ []) ∙ rw (length_digits k (n / 10)) (omega arith)

places-few : (f n : ℕ) → places_in f n ≤ suc f
unfolding places_in
places-few zero n = omega arith
places-few (suc f) n = elim (dec_lt n 10) [
  | yes l ↦ rw (lt-ltb n 10 l) (omega arith)
  | no l ↦ rw (le-ltb n 10 (omega arith)) (omega (arith, places-few f (n / 10)))
]

-- a number has 20 digits at most
pub decimal-few : (n : ℕ) → length (decimal n) ≤ 20
unfolding decimal
decimal-few n = rw (length_digits (places_in 19 n) n) (places-few 19 n)

one_digit_more : (n p : ℕ) → 10 ≤ n → IsDigitCount 10 1 (n / 10) p → IsDigitCount 10 1 n (suc p)
one_digit_more n p h (some, below, reached) = (omega arith, omega (arith, pow-succ' 10 p), λ _. reach)
  where
    reach : 10 ^ (suc p - 1) ≤ n
    reach = elim (dec_lt 1 p) [
      | yes l ↦
          let e : suc p - 1 ≡ suc (p - 1) = omega arith in
          rw e (omega (arith, pow-succ' 10 (p - 1), reached l))
      | no l ↦ let e : suc p - 1 ≡ 1 = omega arith in rw e h
    ]

-- the places are the fewest that hold a number
fewest : (f n : ℕ) → n < 10 ^ suc f → IsDigitCount 10 1 n (places_in f n)
unfolding places_in
fewest zero n h = (omega arith, h, λ l. omega arith)
fewest (suc f) n h = elim (dec_lt n 10) [
  | yes l ↦ rw (lt-ltb n 10 l) (omega arith, omega arith, λ m. omega arith)
  | no l ↦ rw (le-ltb n 10 (omega arith)) (one_digit_more n (places_in f (n / 10)) (omega arith) (fewest f (n / 10) (omega (arith, pow-succ' 10 (suc f)))))
]

pub fewest-digits : FewestDigits
fewest-digits n h = fewest 19 n (omega arith)

-- and there is one such number of them
one-fewest : (n k m : ℕ) → IsDigitCount 10 1 n k → IsDigitCount 10 1 n m → k ≤ m
one-fewest n k m f g = elim (dec_lt m k) [
  | yes l ↦ absurd (omega (arith, f.2 (omega (arith, g.0)), g.1, pow-le-pow_right {n = 10} (omega arith) {i = m} {j = k - 1} (omega arith)))
  | no l ↦ omega arith
]

-- so what `io::decimal` puts is the number in decimal
pub digits_decimal : (n k : ℕ) → n < 2 ^ 64 → IsDigitCount 10 1 n k → last_digits 10 k n ≡ decimal n
unfolding decimal
digits_decimal n k h f =
    let g = fewest-digits n h in
    let e : k ≡ places_in 19 n = omega (arith, one-fewest n k (places_in 19 n) f g, one-fewest n (places_in 19 n) k g f) in
    rw e
