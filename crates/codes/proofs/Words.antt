-- Bits of a part, read by bytes and counted by words.
use Rattle.std.proofs.Common.{◌≡◌, ℕ, zero, suc, ◌+◌, ◌-◌, ◌*◌, ◌/◌, ◌%◌, ◌^◌, ◌<◌, ◌≤◌, List, [], ◌∷◌, length, get_or, take, drop, sym, get_or-take, get_or-drop, refl, ◌∙◌, append-nil, one-mul, div-one, add-one, arith, length-drop, length-take-le, take_all, take-take, drop-drop, take-add, pow-add, shl_exact}
use Rattle.std.proofs.lemmas.Nat.{ones_cat}
use lib.Arith.{digits_lt}
use lib.Count.{ones}
use lib.Pow.{low, high, field, mod-mod-pow}
use Rattle.std.proofs.lemmas.List.{drop-take}
use Rattle.codes.specs.Bits.{number, sum, bits_of, bytes_for}
use Rattle.codes.specs.Codes.{Within}
use Rattle.codes.proofs.Bits.{within-take, within-drop, bits-fixed, length-fixed, fixed-fetch, number_append, number_lt, number-part, number-take-lt, sum-take-add, sum-le}

-- ---- numbers in a part

-- the bits from `at` on
abbrev from : List ℕ → ℕ → List ℕ
from bytes at = drop at (bits_of bytes)

bits-from : (bytes : List ℕ) (at : ℕ) → Within 1 (from bytes at)
bits-from bytes at = within-drop 1 at (bits_of bytes) (bits-fixed 8 bytes)

-- the number of n bits, and of m bits after them
pub number_more : (bytes : List ℕ) (at n m : ℕ) → at + n + m ≤ length bytes * 8
    → number (take (n + m) (from bytes at)) ≡ number (take n (from bytes at)) * 2 ^ m + number (take m (from bytes (at + n)))
number_more bytes at n m h =
    let l : length (take m (from bytes (at + n))) ≡ m = length-take-le m (from bytes (at + n)) (simp (length-drop, length-fixed) (omega arith)) in
    rw (take-add n m (from bytes at), drop-drop n at (bits_of bytes), number_append, l)

-- one byte
number-byte : (bytes : List ℕ) (i : ℕ) → i < length bytes → get_or bytes i 0 < 256 → number (take 8 (from bytes (i * 8))) ≡ get_or bytes i 0
number-byte bytes i h b = rw append-nil at (fixed-fetch 8 bytes i [] h b)

-- k bytes from byte i on, and one after them
pub number-next : (bytes : List ℕ) (i k : ℕ) → i + k < length bytes → get_or bytes (i + k) 0 < 256
    → number (take ((k + 1) * 8) (from bytes (i * 8))) ≡ number (take (k * 8) (from bytes (i * 8))) * 256 + get_or bytes (i + k) 0
number-next bytes i k h b =
    let e : (k + 1) * 8 ≡ k * 8 + 8 = omega arith in
    let e' : i * 8 + k * 8 ≡ (i + k) * 8 = omega arith in
    rw (e, number_more bytes (i * 8) (k * 8) 8 (omega arith), e', number-byte bytes (i + k) h b)

-- entry j of the n from entry i on
pub entry-there : (bytes part : List ℕ) (n i j : ℕ) → part ≡ take n (drop i bytes) → j < n → get_or part j 0 ≡ get_or bytes (i + j) 0
entry-there bytes part n i j e h = rw (e, get_or-take n (drop i bytes) j 0 h, get_or-drop i bytes j 0)

-- the number that k bytes spell
abbrev spelled : ℕ → List ℕ → ℕ → ℕ
spelled zero bytes i = 0
spelled (suc k) bytes i = spelled k bytes i * 256 + get_or bytes (i + k) 0

pub number-bytes : (k : ℕ) (bytes : List ℕ) (i : ℕ) → i + k ≤ length bytes → Within 8 bytes → number (take (k * 8) (from bytes (i * 8))) ≡ spelled k bytes i
unfolding number
number-bytes zero bytes i h b = refl
number-bytes (suc k) bytes i h b = rw (← (add-one k), number-next bytes i k (omega arith) (b (i + k)), number-bytes k bytes i (omega arith) b)

-- so many bits spell less than a power of two
pub part-lt : (bytes : List ℕ) (at w : ℕ) → number (take w (from bytes at)) < 2 ^ w
part-lt bytes at w = number-take-lt (from bytes at) w (bits-from bytes at)

-- of j + 1 numbers of w bits the last, and those before it
pub last-number : (bytes : List ℕ) (at j w : ℕ) → at + j * w + w ≤ length bytes * 8
    → let x = number (take (suc j * w) (from bytes at)) in
    (x % 2 ^ w ≡ number (take w (from bytes (at + j * w)))) × (x / 2 ^ w ≡ number (take (j * w) (from bytes at)))
last-number bytes at j w h =
    let e : suc j * w ≡ j * w + w = omega arith in
    let l = part-lt bytes (at + j * w) w in
    rw (e, number_more bytes at (j * w) w h) (low (number (take (j * w) (from bytes at))) w l, high (number (take (j * w) (from bytes at))) w l)

take-drop-take : (w s m : ℕ) (l : List ℕ) → s + w ≤ m → take w (drop s (take m l)) ≡ take w (drop s l)
take-drop-take w s m l h = let e : s + (m - s) ≡ m = omega arith in rw (← e, drop-take s (m - s) l, take-take w (m - s) (drop s l) (omega arith))

-- w bits from bit `at + p` on, of which x has the r after them too, and as many before them as from bit `at` on
pub bits-within : (bytes : List ℕ) (at p w r x : ℕ) → at + p + w + r ≤ length bytes * 8 → x % 2 ^ (p + w + r) ≡ number (take (p + w + r) (from bytes at))
    → x / 2 ^ r % 2 ^ w ≡ number (take w (from bytes (at + p)))
bits-within bytes at p w r x h e =
    let d = from bytes at in
    let len : length (take (p + w + r) d) ≡ p + w + r = length-take-le (p + w + r) d (simp (length-drop, length-fixed) (omega arith)) in
    let there = number-part (take (p + w + r) d) p w r (within-take 1 (p + w + r) d (bits-from bytes at)) (sym len) in
    rw (← (drop-drop p at (bits_of bytes)), ← (take-drop-take w p (p + w + r) d (omega arith)), there, ← e, field x (p + w) r) (sym (mod-mod-pow (x / 2 ^ r) p w))

-- w bits from bit `at` on, in the n bytes from byte `first` on, where r bits follow them
pub read-part : (bytes : List ℕ) (at w first n r : ℕ) → first * 8 ≤ at → at + w + r ≡ (first + n) * 8 → first + n ≤ length bytes
    → number (take w (from bytes at)) ≡ number (take (n * 8) (from bytes (first * 8))) / 2 ^ r % 2 ^ w
read-part bytes at w first n r l h k =
    let d = from bytes (first * 8) in
    let s = at - first * 8 in
    let e : first * 8 + s ≡ at = omega arith in
    let e' : take w (from bytes at) ≡ take w (drop s d) = rw (drop-drop s (first * 8) (bits_of bytes), e) in
    let len : length (take (n * 8) d) ≡ n * 8 = length-take-le (n * 8) d (simp (length-drop, length-fixed) (omega arith)) in
    rw (e', ← (take-drop-take w s (n * 8) d (omega arith)))
    (number-part (take (n * 8) d) s w r (within-take 1 (n * 8) d (bits-from bytes (first * 8))) (omega arith))

-- the bits after the first n, where they are the lowest of the last byte
pub last-bits : (bytes : List ℕ) (n : ℕ) → length bytes ≡ bytes_for n → 1 ≤ length bytes → get_or bytes (length bytes - 1) 0 < 256
    → number (from bytes n) ≡ get_or bytes (length bytes - 1) 0 % 2 ^ (length bytes * 8 - n)
last-bits bytes n e l b =
    let i = length bytes - 1 in
    let w = length bytes * 8 - n in
    let whole : take w (from bytes n) ≡ from bytes n = take_all w (from bytes n) (simp (length-drop, length-fixed) (omega arith)) in
    let law = read-part bytes n w i 1 0 (omega arith) (omega arith) (omega arith) in
    rw (whole, number-byte bytes i (omega arith) b, div-one (get_or bytes i 0)) at law

-- ---- ones in a part

ones_bit : (b : ℕ) → b < 2 → ones b ≡ b
unfolding ones
ones_bit zero h = refl
ones_bit (suc zero) h = refl
ones_bit (suc (suc b)) h = absurd (omega arith)

-- the ones of a number are those of its bits
ones-number : (bs : List ℕ) → Within 1 bs → ones (number bs) ≡ sum bs
unfolding number sum ones
ones-number [] h = refl
ones-number (b ∷ bs) h =
    let t : Within 1 bs = λ j. h (suc j) in
    rw (ones_cat (length bs) b (number bs) (number_lt bs t refl), ones_bit b (h 0), ones-number bs t)

pub ones-part : (bytes : List ℕ) (at w : ℕ) → ones (number (take w (from bytes at))) ≡ sum (take w (from bytes at))
ones-part bytes at w = ones-number (take w (from bytes at)) (within-take 1 w (from bytes at) (bits-from bytes at))

pub sum-part-le : (bytes : List ℕ) (at w : ℕ) → sum (take w (from bytes at)) ≤ w
sum-part-le bytes at w = sum-le (from bytes at) w (bits-from bytes at)

-- the ones of n bits and of m bits after them
pub ones-more : (bytes : List ℕ) (at n m : ℕ) → sum (take (n + m) (from bytes at)) ≡ sum (take n (from bytes at)) + sum (take m (from bytes (at + n)))
ones-more bytes at n m = sum-take-add n m (from bytes at) ∙ rw (drop-drop n at (bits_of bytes))

-- the number that k bytes spell from the last one on
abbrev reversed : ℕ → List ℕ → ℕ → ℕ
reversed zero bytes i = 0
reversed (suc k) bytes i = reversed k bytes i + get_or bytes (i + k) 0 * 2 ^ (k * 8)

-- has the ones of their bits
pub ones-reversed : (k : ℕ) (bytes : List ℕ) (i : ℕ) → i + k ≤ length bytes → Within 8 bytes
    → (reversed k bytes i < 2 ^ (k * 8)) × (ones (reversed k bytes i) ≡ sum (take (k * 8) (from bytes (i * 8))))
unfolding ones sum
ones-reversed zero bytes i h b = (omega arith, refl)
ones-reversed (suc k) bytes i h b =
    let ih = ones-reversed k bytes i (omega arith) b in
    let x = get_or bytes (i + k) 0 in
    let r = reversed k bytes i in
    let e : suc k * 8 ≡ k * 8 + 8 = omega arith in
    let e' : suc k * 8 ≡ 8 + k * 8 = omega arith in
    let e'' : i * 8 + k * 8 ≡ (i + k) * 8 = omega arith in
    let swap : r + x * 2 ^ (k * 8) ≡ x * 2 ^ (k * 8) + r = omega arith in
    let here : ones x ≡ sum (take 8 (from bytes ((i + k) * 8))) = rw (← (number-byte bytes (i + k) (omega arith) (b (i + k)))) (ones-part bytes ((i + k) * 8) 8) in (
      rw (swap, e', pow-add 2 8 (k * 8)) (digits_lt {c = 2 ^ (k * 8)} (b (i + k)) ih.0),
      rw (swap, ones_cat (k * 8) x r ih.0, here, e, ones-more bytes (i * 8) (k * 8) 8, e'') (omega arith),
    )

-- ---- a power of two in a word

-- 1, shifted up
pub one_shl : (w : ℕ) → w < 64 → 1 * 2 ^ w % 2 ^ 64 ≡ 2 ^ w
one_shl w h = shl_exact {a = 1} 1 w 64 (omega arith) (omega arith) ∙ one-mul (2 ^ w)
