-- Ones of words that are added up, and of words in streams.
use Rattle.std.proofs.Common.{◌≡◌, ℕ, zero, suc, ◌+◌, ◌*◌, ◌/◌, ◌%◌, ◌^◌, ◌<◌, List, take, drop, refl, add-zero, add-suc, one-mul, zero-mul, arith, bit_and, bit_or, bit_xor}
use Rattle.std.proofs.lemmas.Nat.{and_shr, or_shr, xor_shr, and_mod, or_mod, xor_mod}
use lib.Count.{ones, ones_step}
use Rattle.codes.specs.Bits.{sum, bits_of}
use Rattle.codes.specs.Streams.{in_streams}
use Rattle.codes.proofs.Words.{ones-more}

-- ---- words that are added up

-- of the sum of three bits, in each place, the low bit and the high bit
abbrev parity : ℕ → ℕ → ℕ → ℕ
parity a b c = bit_xor (bit_xor a b) c

abbrev carry : ℕ → ℕ → ℕ → ℕ
carry a b c = bit_or (bit_and a b) (bit_and (bit_xor a b) c)

digits-added : (a b c : ℕ) → a < 2 → b < 2 → c < 2 → parity a b c + 2 * carry a b c ≡ a + b + c
digits-added zero zero zero x y z = refl
digits-added zero zero (suc zero) x y z = refl
digits-added zero zero (suc (suc c)) x y z = absurd (omega arith)
digits-added zero (suc zero) zero x y z = refl
digits-added zero (suc zero) (suc zero) x y z = refl
digits-added zero (suc zero) (suc (suc c)) x y z = absurd (omega arith)
digits-added zero (suc (suc b)) c x y z = absurd (omega arith)
digits-added (suc zero) zero zero x y z = refl
digits-added (suc zero) zero (suc zero) x y z = refl
digits-added (suc zero) zero (suc (suc c)) x y z = absurd (omega arith)
digits-added (suc zero) (suc zero) zero x y z = refl
digits-added (suc zero) (suc zero) (suc zero) x y z = refl
digits-added (suc zero) (suc zero) (suc (suc c)) x y z = absurd (omega arith)
digits-added (suc zero) (suc (suc b)) c x y z = absurd (omega arith)
digits-added (suc (suc a)) b c x y z = absurd (omega arith)

parity-step : (a b c : ℕ) → ones (parity a b c) ≡ parity (a % 2) (b % 2) (c % 2) + ones (parity (a / 2) (b / 2) (c / 2))
parity-step a b c = rw (ones_step (parity a b c), xor_mod (bit_xor a b) c 1, xor_mod a b 1, xor_shr (bit_xor a b) c 1, xor_shr a b 1)

carry-step : (a b c : ℕ) → ones (carry a b c) ≡ carry (a % 2) (b % 2) (c % 2) + ones (carry (a / 2) (b / 2) (c / 2))
carry-step a b c =
    let u = bit_and a b in
    let v = bit_and (bit_xor a b) c in
    rw (ones_step (carry a b c), or_mod u v 1, and_mod a b 1, and_mod (bit_xor a b) c 1, xor_mod a b 1, or_shr u v 1, and_shr a b 1, and_shr (bit_xor a b) c 1, xor_shr a b 1)

-- both together have the ones of all three
pub ones-added : (k a b c : ℕ) → a < 2 ^ k → b < 2 ^ k → c < 2 ^ k → ones (parity a b c) + 2 * ones (carry a b c) ≡ ones a + ones b + ones c
unfolding ones
ones-added zero zero zero zero x y z = refl
ones-added zero zero zero (suc c) x y z = absurd (omega arith)
ones-added zero zero (suc b) c x y z = absurd (omega arith)
ones-added zero (suc a) b c x y z = absurd (omega arith)
ones-added (suc k) a b c x y z =
    let ih = ones-added k (a / 2) (b / 2) (c / 2) (omega arith) (omega arith) (omega arith) in
    let here = digits-added (a % 2) (b % 2) (c % 2) (omega arith) (omega arith) (omega arith) in
    rw (parity-step a b c, carry-step a b c, ones_step a, ones_step b, ones_step c) (omega (arith, ih, here))

-- ---- streams

-- the first j, and k after them
streams-apart : (j k n : ℕ) (bytes : List ℕ) (first step : ℕ) → in_streams (j + k) n bytes first step ≡ in_streams j n bytes first step + in_streams k n bytes (first + j * step) step
unfolding in_streams
streams-apart j zero n bytes first step = rw (add-zero j) (omega arith)
streams-apart j (suc k) n bytes first step =
    let e : (first + (j + k) * step) * 8 ≡ (first + j * step + k * step) * 8 = omega arith in
    rw (add-suc j k, e, streams-apart j k n bytes first step) (omega arith)

-- a word
abbrev word : List ℕ → ℕ → ℕ
word bytes first = sum (take 64 (drop (first * 8) (bits_of bytes)))

abbrev two : List ℕ → ℕ → ℕ → ℕ
two = in_streams 2 1

-- one stream, two and fifteen, of a word each
one_word : (bytes : List ℕ) (first step : ℕ) → in_streams 1 1 bytes first step ≡ word bytes first
unfolding in_streams
one_word bytes first step = simp (zero-mul, add-zero) (omega arith)

pub two-words : (bytes : List ℕ) (first step : ℕ) → in_streams 2 1 bytes first step ≡ word bytes first + word bytes (first + step)
unfolding in_streams
two-words bytes first step = simp (zero-mul, one-mul, add-zero) (omega arith)

pub fifteen-words : (bytes : List ℕ) (first step : ℕ)
    → in_streams 15 1 bytes first step
    ≡ word bytes first + two bytes (first + step) step + two bytes (first + 3 * step) step + two bytes (first + 5 * step) step + two bytes (first + 7 * step) step
    + two bytes (first + 9 * step) step + two bytes (first + 11 * step) step + two bytes (first + 13 * step) step
fifteen-words bytes first step =
    let next : (j : ℕ) → in_streams (j + 2) 1 bytes first step ≡ in_streams j 1 bytes first step + two bytes (first + j * step) step = λ j. streams-apart j 2 1 bytes first step in
    rw (next 13, next 11, next 9, next 7, next 5, next 3, next 1, one_word bytes first step, one-mul step)

-- no word of any
pub streams-none : (k : ℕ) (bytes : List ℕ) (first step : ℕ) → in_streams k 0 bytes first step ≡ 0
unfolding in_streams sum
streams-none zero bytes first step = refl
streams-none (suc k) bytes first step = rw (streams-none k bytes first step)

-- a word more in each
pub streams-more : (k n : ℕ) (bytes : List ℕ) (first step : ℕ) → in_streams k (n + 1) bytes first step ≡ in_streams k n bytes first step + in_streams k 1 bytes (first + n * 8) step
unfolding in_streams
streams-more zero n bytes first step = refl
streams-more (suc k) n bytes first step =
    let e : (n + 1) * 64 ≡ n * 64 + 64 = omega arith in
    let e' : (first + k * step) * 8 + n * 64 ≡ (first + n * 8 + k * step) * 8 = omega arith in
    rw (e, ones-more bytes ((first + k * step) * 8) (n * 64) 64, e', streams-more k n bytes first step) (omega arith)

-- streams without a gap are all their words
pub streams-all : (k n : ℕ) (bytes : List ℕ) (first : ℕ) → in_streams k n bytes first (n * 8) ≡ sum (take (k * (n * 64)) (drop (first * 8) (bits_of bytes)))
unfolding in_streams sum
streams-all zero n bytes first = rw (zero-mul (n * 64))
streams-all (suc k) n bytes first =
    let e : suc k * (n * 64) ≡ k * (n * 64) + n * 64 = omega arith in
    let e' : first * 8 + k * (n * 64) ≡ (first + k * (n * 8)) * 8 = omega arith in
    rw (e, ones-more bytes (first * 8) (k * (n * 64)) (n * 64), e', streams-all k n bytes first)
