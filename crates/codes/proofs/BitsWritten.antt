-- Bits written one after the other into bytes, and the padded bytes that they end as.
use Rattle.std.proofs.Common.{◌≡◌, ℕ, zero, suc, ◌+◌, ◌-◌, ◌*◌, ◌/◌, ◌%◌, ◌^◌, ◌<◌, ◌≤◌, List, [], ◌∷◌, ◌++◌, length, get_or, take, drop, replicate, sym, refl, ap, ◌∙◌, append_assoc, append-nil, add-zero, mod-eq_of_lt, suc-add, zero-add, bit_or, arith, length-append, take-append-drop, length-drop, length-take-le, take_all, take-take, take_at, drop_at}
use Rattle.std.proofs.lemmas.Nat.{or_shifted, mod-pow-add, shl-shr}
use Rattle.std.proofs.lemmas.List.{drop-take, take-replicate}
use Rattle.std.proofs.lemmas.Slice.{take-put_mid, drop-put_mid}
use borrow.Rule.Slice.PartMut.{put_mid}
use native.Mathlib.Nat.{mul-mod_left, zero-div}
use lib.Seq.{take-append-add}
use lib.Pow.{mod-mod-pow, high}
use Rattle.codes.specs.declared.writing.Writer.{Writer}
use Rattle.codes.specs.Bits.{bits, fixed, numbers, bytes_of, bits_of, bytes_for, padded}
use Rattle.codes.specs.Codes.{Within}
use Rattle.codes.specs.Written.{written, Wrote}
use Rattle.codes.proofs.Bits.{bits-bits, bits-low, bits-mod, bits-split, length-bits, length-fixed, length-padded, fixed-append, number-bits, numbers-bits}
use Rattle.codes.proofs.Lists.{drop-later}

-- ---- a shifted word

-- a shift by k in a word of j + k bits keeps the j lowest
shl-mod : (a j k : ℕ) → a * 2 ^ k % 2 ^ (j + k) ≡ a % 2 ^ j * 2 ^ k
shl-mod a j k = mod-pow-add (a * 2 ^ k) j k ∙ rw (shl-shr a k, mul-mod_left a (2 ^ k), add-zero (a % 2 ^ j * 2 ^ k))

-- the h lowest bits are those of a longer remainder
bits-cut : (h m a : ℕ) → h ≤ m → bits h (a % 2 ^ m) ≡ bits h a
bits-cut h m a l =
    let e : m - h + h ≡ m = omega arith in
    sym (bits-mod h (a % 2 ^ m)) ∙ ap (bits h) (rw e at (mod-mod-pow a (m - h) h)) ∙ bits-mod h a

-- w bits of x, after the h bits that wait in a: those of a that a word has no room for are left out
bits-join : (h w a x : ℕ) → h < 32 → w ≤ 32 → x < 2 ^ w → bits (h + w) (bit_or (a * 2 ^ w % 2 ^ 64) x) ≡ bits h a ++ bits w x
bits-join h w a x j l k =
    let m = 64 - w in
    let e : m + w ≡ 64 = omega arith in
    let s : a * 2 ^ w % 2 ^ 64 ≡ a % 2 ^ m * 2 ^ w = rw e at (shl-mod a m w) in
    rw (s, or_shifted (a % 2 ^ m) w x k, bits-split h w (a % 2 ^ m * 2 ^ w + x), high (a % 2 ^ m) w k, bits-low w (a % 2 ^ m) x, bits-cut h m a (omega arith))

-- ---- writing, one after the other

pub wrote_nothing : (o : List ℕ) (p : Writer) → Wrote o p o p []
wrote_nothing o p = record { spelled = sym (append-nil (written o p)); later = refl; kept = refl; place = omega arith; onward = omega arith }

pub wrote-both : {o r s : List ℕ} {p q t : Writer} {a b : List ℕ} → Wrote o p r q a → Wrote r q s t b → Wrote o p s t (a ++ b)
wrote-both {o} {r} {s} {p} {q} {t} {a} {b} x y = record {
  spelled = y.spelled ∙ ap (λ (m : List ℕ). m ++ b) x.spelled ∙ append_assoc (written o p) a b;
  later = y.later ∙ drop-later r o q.at x.later t.at y.onward;
  kept = y.kept ∙ x.kept;
  place = rw (length-append a b) (omega arith);
  onward = omega arith;
}

module _ (o : List ℕ) (p q : Writer) (w x : ℕ) (l : w ≤ 32) (k : x < 2 ^ w) (acc : q.acc ≡ bit_or (p.acc * 2 ^ w % 2 ^ 64) x) where
  -- the bits of a number, to wait
  pub wrote-bits : q.at ≡ p.at → q.have ≡ p.have + w → Wrote o p o q (bits w x)
  wrote-bits at have = record {
    spelled = rw (at, have, acc, bits-join p.have w p.acc x p.few l k) (sym (append_assoc (bits_of (take p.at o)) (bits p.have p.acc) (bits w x)));
    later = rw at;
    kept = refl;
    place = rw (length-bits w x) (omega arith);
    onward = omega arith;
  }

  -- and with 32 bits or more, the first 32 of them as bytes
  pub wrote-word : (bytes : List ℕ) (n : ℕ) → n ≡ 4 → p.at + 4 ≤ length o → q.at ≡ p.at + 4 → 32 + q.have ≡ p.have + w → bytes ≡ bytes_of 4 (bits 32 (q.acc / 2 ^ q.have)) → length bytes ≡ 4
      → Wrote o p (put_mid p.at n o bytes) q (bits w x)
  wrote-word bytes n four room at have is len =
      let t : take q.at (put_mid p.at n o bytes) ≡ take p.at o ++ bytes = take-put_mid p.at n o bytes q.at (omega arith) (omega arith) in
      let y = q.acc / 2 ^ q.have in
      let b : bits_of bytes ≡ bits 32 y = rw is (numbers-bits 8 4 (bits 32 y) (bits-bits 32 y) (rw (length-bits 32 y) (omega arith)) ∙ take_all 32 (bits 32 y) (rw (length-bits 32 y) (omega arith))) in
      let s : bits 32 y ++ bits q.have q.acc ≡ bits p.have p.acc ++ bits w x = sym (bits-split 32 q.have q.acc) ∙ rw (have, acc) (bits-join p.have w p.acc x p.few l k) in
      record {
        spelled = rw (t, fixed-append 8 (take p.at o) bytes, b) (append_assoc (bits_of (take p.at o)) (bits 32 y) (bits q.have q.acc) ∙ ap (λ m. bits_of (take p.at o) ++ m) s ∙ sym (append_assoc (bits_of (take p.at o)) (bits p.have p.acc) (bits w x)));
        later = drop-put_mid p.at n o bytes q.at (omega arith) (omega arith) (omega arith);
        kept = simp (length-append, length-drop, length-take-le p.at o (omega arith)) (omega arith);
        place = rw (length-bits w x) (omega arith);
        onward = omega arith;
      }

-- ---- bytes

bytes-append : (xs z : List ℕ) (k : ℕ) → Within 8 xs → bytes_of (length xs + k) (bits_of xs ++ z) ≡ xs ++ bytes_of k z
unfolding fixed numbers
bytes-append [] z k h = ap (λ (n : ℕ). bytes_of n z) (zero-add k)
bytes-append (x ∷ xs) z k h =
    rw (
      suc-add (length xs) k,
      append_assoc (bits 8 x) (fixed 8 xs) z,
      take_at (bits 8 x) (fixed 8 xs ++ z) 8 (length-bits 8 x),
      drop_at (bits 8 x) (fixed 8 xs ++ z) 8 (length-bits 8 x),
      number-bits 8 x,
      mod-eq_of_lt (h 0),
      bytes-append xs z k (λ i. h (suc i)),
    )

bytes-four : (a b c d j : ℕ) → get_or (a % 256 ∷ b % 256 ∷ c % 256 ∷ d % 256 ∷ []) j 0 < 256
bytes-four a b c d zero = omega arith
bytes-four a b c d (suc zero) = omega arith
bytes-four a b c d (suc (suc zero)) = omega arith
bytes-four a b c d (suc (suc (suc zero))) = omega arith
bytes-four a b c d (suc (suc (suc (suc j)))) = omega arith

-- the bytes of a word
pub word-bytes : (x : ℕ) → let y = x % 2 ^ 32 in bytes_of 4 (bits 32 x) ≡ y / 256 ^ 3 % 256 ∷ y / 256 ^ 2 % 256 ∷ y / 256 ^ 1 % 256 ∷ y % 256 ∷ []
unfolding fixed numbers
word-bytes x =
    let y = x % 2 ^ 32 in
    let z = y / 256 ^ 3 % 256 ∷ y / 256 ^ 2 % 256 ∷ y / 256 ^ 1 % 256 ∷ y % 256 ∷ [] in
    let s : bits 32 x ≡ bits_of z =
    sym (bits-mod 32 x) ∙ rw (bits-split 8 24 y, bits-split 8 16 y, bits-split 8 8 y, bits-mod 8 (y / 2 ^ 24), bits-mod 8 (y / 2 ^ 16), bits-mod 8 (y / 2 ^ 8), bits-mod 8 y, append-nil (bits 8 y)) in
    rw (s, ← (append-nil (bits_of z))) (bytes-append z [] 0 (bytes-four (y / 2 ^ 24) (y / 2 ^ 16) (y / 2 ^ 8) y))

-- the first n of more numbers are those of the bits that they take
take-numbers : (w n m : ℕ) (bs : List ℕ) → n ≤ m → take n (numbers w m bs) ≡ numbers w n bs
unfolding numbers
take-numbers w zero m bs l = refl
take-numbers w (suc n) zero bs l = absurd (omega arith)
take-numbers w (suc n) (suc m) bs l = rw (take-numbers w n m (drop w bs) (omega arith))

numbers-take : (w n : ℕ) (bs : List ℕ) → numbers w n (take (n * w) bs) ≡ numbers w n bs
unfolding numbers
numbers-take w zero bs = refl
numbers-take w (suc n) bs =
    let e : suc n * w ≡ w + n * w = omega arith in
    rw (e, take-take w (w + n * w) bs (omega arith), drop-take w (n * w) bs, numbers-take w n (drop w bs))

bits-zero : (w : ℕ) → bits w 0 ≡ replicate w 0
unfolding bits
bits-zero zero = refl
bits-zero (suc w) = rw (zero-div (2 ^ w), bits-zero w)

-- h bits at the top of 32, with zeros after them
bits-top : (h a : ℕ) → h < 32 → bits 32 (a * 2 ^ (32 - h) % 2 ^ 64) ≡ bits h a ++ replicate (32 - h) 0
bits-top h a l =
    let k = 32 - h in
    let e : h + k ≡ 32 = omega arith in
    let low : bits k (a * 2 ^ k) ≡ replicate k 0 = rw (add-zero (a * 2 ^ k)) at (bits-low k a 0) ∙ bits-zero k in
    bits-cut 32 64 (a * 2 ^ k) (omega arith) ∙ rw (rw e at (bits-split h k (a * 2 ^ k)), shl-shr a k, low)

-- n bytes of h bits and m zeros after them, where the zeros reach
bits-filled : (h a n m : ℕ) → h ≤ n * 8 → n * 8 ≤ h + m → take (n * 8) (bits h a ++ replicate m 0) ≡ bits h a ++ replicate (n * 8 - h) 0
bits-filled h a n m j l =
    let e : n * 8 ≡ length (bits h a) + (n * 8 - h) = rw (length-bits h a) (omega arith) in
    ap (λ i. take i (bits h a ++ replicate m 0)) e ∙ take-append-add (bits h a) (replicate m 0) (n * 8 - h) ∙ ap (λ z. bits h a ++ z) (take-replicate (n * 8 - h) m 0 (omega arith))

-- what is left of h bits, as the first bytes of a word that has them at its top
pub padded-last : (xs : List ℕ) (h a n : ℕ) → Within 8 xs → h < 32 → n ≡ (h + 7) / 8
    → padded (bits_of xs ++ bits h a) ≡ xs ++ take n (bytes_of 4 (bits 32 (a * 2 ^ (32 - h) % 2 ^ 64)))
unfolding padded
padded-last xs h a n f l e =
    let s : bytes_for (length (bits_of xs ++ bits h a)) ≡ length xs + n = rw (length-append (bits_of xs) (bits h a), length-fixed 8 xs, length-bits h a) (omega arith) in
    let t : bytes_of n (bits h a ++ replicate 7 0) ≡ bytes_of n (bits h a ++ replicate (32 - h) 0) =
    sym (numbers-take 8 n (bits h a ++ replicate 7 0)) ∙ rw (bits-filled h a n 7 (omega arith) (omega arith), ← (bits-filled h a n (32 - h) (omega arith) (omega arith))) (numbers-take 8 n (bits h a ++ replicate (32 - h) 0)) in
    rw (s, append_assoc (bits_of xs) (bits h a) (replicate 7 0), bytes-append xs (bits h a ++ replicate 7 0) n f, t, bits-top h a l, take-numbers 8 n 4 (bits h a ++ replicate (32 - h) 0) (omega arith))

-- ---- a whole part

-- bits have room where their bytes do
pub bits-room : (bs out : List ℕ) → length (padded bs) ≤ length out → length bs ≤ length out * 8
bits-room bs out h = omega (arith, length-padded bs)

-- bits written from the front, and finished
pub wrote-part : {o r s : List ℕ} {p q : Writer} {n : ℕ} {bs : List ℕ} → (p.at ≡ 0) × (p.have ≡ 0) → Wrote o p r q bs
    → (n ≡ bytes_for (q.at * 8 + q.have)) × (take n s ≡ padded (written r q)) × (drop n s ≡ drop n r)
    → (n ≡ length (padded bs)) × (s ≡ padded bs ++ drop n o)
unfolding fixed bits
wrote-part {o} {r} {s} {p} {q} {n} {bs} z w f =
    let e : written o p ≡ [] = rw (z.0, z.1) in
    let b : written r q ≡ bs = rw e at w.spelled in (
      omega (arith, length-padded bs),
      sym (take-append-drop n s) ∙ rw (f.1, b, f.2, drop-later r o q.at w.later n (omega arith)),
    )
