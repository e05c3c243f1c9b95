-- What is decoded spells the part again: the bits of a level that is decoded are those that encode writes for its values.
use Rattle.std.proofs.Common.{◌≡◌, ℕ, zero, suc, ◌+◌, ◌-◌, ◌*◌, ◌/◌, ◌^◌, ◌<◌, ◌≤◌, Bool, true, false, eqb, List, [], ◌∷◌, ◌++◌, map, length, get_or, take, drop, replicate, sym, refl, ap, ◌∙◌, zero-mul, arith, length-append, length-drop, take-append-drop, length-take-le, get_or-drop, drop-drop, ext_get_or, take-add, ne_eqb, eqb-true}
use Rattle.std.proofs.lemmas.Bool.{eqb-false}
use lib.Seq.{drop-append_seam}
use lib.Pow.{high}
use Rattle.codes.specs.declared.kinds.Kind.{Kind}
use Rattle.codes.specs.declared.kinds.Kind.TheVariants.{Fixed, Chunked, Refused}
use Rattle.codes.specs.Lists.{same}
use Rattle.codes.specs.Bits.{bits, number, sum, fixed, bits_of, bytes_for}
use Rattle.codes.specs.Codes.{kind_of, continuation, rest, layers, kind_bits, level_bits, part, Within}
use Rattle.codes.specs.Choice.{size}
use Rattle.codes.specs.Decode.{all, merged, decoded_layers, kind_decoded, decoded}
use Rattle.codes.specs.Promises.{Known, DecodedPart}
use Rattle.codes.proofs.Bits.{within-take, within-drop, bits-fixed, length-fixed, length-numbers, length-padded, number-take-lt, bits-low, bits-number, number-zero, zeros-number, numbers-bits, fixed_same}
use Rattle.codes.proofs.CodeByte.{kind-known}
use Rattle.codes.proofs.Decodes.{fixed_told, layer-told, layers-fetches}
use Rattle.codes.proofs.Lists.{zeros-taken, same_itself, not_same}
use Rattle.codes.proofs.Merges.{from-one-at}
use Rattle.codes.proofs.Parts.{padding, bits-padded, within-padded, bits-kind}

-- ---- a layer

-- a layer's continuation bits, its chunks and its rests, by its values
record Spelled (b : ℕ) (ms bs rests vs : List ℕ) : Type 0 where
  bits_are : map (continuation b) vs ≡ ms
  chunks-are : fixed b vs ≡ take (length ms * b) bs
  rests-are : rest b vs ≡ rests

module _ (b : ℕ) (ms bs : List ℕ) (w : Within 1 bs) (l : suc (length ms) * b ≤ length bs) where
  -- the first value, with x above its chunk
  first-bits : (x : ℕ) → bits b (x * 2 ^ b + number (take b bs)) ≡ take b bs
  first-bits x = bits-low b x (number (take b bs)) ∙ bits-number (take b bs) (within-take 1 b bs w) (length-take-le b bs (omega arith))

  first_chunks : (x : ℕ) (vs : List ℕ) → fixed b vs ≡ take (length ms * b) (drop b bs)
      → bits b (x * 2 ^ b + number (take b bs)) ++ fixed b vs ≡ take (suc (length ms) * b) bs
  first_chunks x vs e =
      let p : suc (length ms) * b ≡ b + length ms * b = omega arith in
      rw (first-bits x, e, p) (sym (take-add b (length ms * b) bs))

  first_above : (x : ℕ) → (x * 2 ^ b + number (take b bs)) / 2 ^ b ≡ x
  first_above x = high x b (number-take-lt bs b w)

merged-spelled : (b : ℕ) (ms bs rests : List ℕ) → Within 1 ms → Within 1 bs → length ms * b ≤ length bs → length rests ≡ sum ms
    → ((q : ℕ) → q < length rests → 1 ≤ get_or rests q 0) → Spelled b ms bs rests (merged b ms bs rests)
unfolding merged sum fixed rest
merged-spelled b [] bs [] wm w l e p = record { bits_are = refl; chunks-are = ap (λ (m : ℕ). take m bs) (sym (zero-mul b)); rests-are = refl }
merged-spelled b [] bs (r ∷ rests) wm w l e p = absurd (omega arith)
merged-spelled b (zero ∷ ms) bs rests wm w l e p =
    let c = number (take b bs) in
    let v : c + 0 * (2 ^ b * get_or rests 0 0) ≡ 0 * 2 ^ b + c = omega arith in
    let later = merged-spelled b ms (drop b bs) rests (λ j. wm (suc j)) (within-drop 1 b bs w) (simp length-drop (omega arith)) (omega arith) p in
    let x = first_above b ms bs w l 0 in
    rw v (record {
      bits_are = rw x (ap (λ (t : List ℕ). 0 ∷ t) later.bits_are);
      chunks-are = first_chunks b ms bs w l 0 (merged b ms (drop b bs) rests) later.chunks-are;
      rests-are = rw x later.rests-are;
    })
merged-spelled b (suc zero ∷ ms) bs [] wm w l e p = absurd (omega arith)
merged-spelled b (suc zero ∷ ms) bs (r ∷ rests) wm w l e p =
    let c = number (take b bs) in
    let v : c + 1 * (2 ^ b * r) ≡ r * 2 ^ b + c = omega arith in
    let later = merged-spelled b ms (drop b bs) rests (λ j. wm (suc j)) (within-drop 1 b bs w) (simp length-drop (omega arith)) (omega arith) (λ q h. p (suc q) (omega arith)) in
    let x = first_above b ms bs w l r in
    let some : eqb r 0 ≡ false = ne_eqb r 0 (λ z. absurd (omega (arith, p 0 (omega arith)))) in
    rw v (record {
      bits_are = rw (x, some) (ap (λ (t : List ℕ). 1 ∷ t) later.bits_are);
      chunks-are = first_chunks b ms bs w l r (merged b ms (drop b bs) rests) later.chunks-are;
      rests-are = rw (x, some) (ap (λ (t : List ℕ). r ∷ t) later.rests-are);
    })
merged-spelled b (suc (suc m) ∷ ms) bs rests wm w l e p = absurd (omega (arith, wm 0))

-- ---- the bits of a level

-- they begin with the layers
layers-spelled : (f b n : ℕ) (bs vs : List ℕ) → 1 ≤ b → b ≤ 8 → Within 1 bs → decoded_layers f b n bs ≡ all vs → take (length (layers f b vs)) bs ≡ layers f b vs
unfolding layers
layers-spelled zero b n bs vs hb h8 w e = refl
layers-spelled (suc f) b n bs vs hb h8 w e =
    let t = layer-told f b n bs vs e in
    let r = t.rests in
    let wd = within-drop 1 (n + n * b) bs w in
    let ln : length (take n bs) ≡ n = length-take-le n bs (omega arith) in
    let count = (layers-fetches f b (sum (take n bs)) (drop (n + n * b) bs) r hb h8 wd t.after).count in
    let s = merged-spelled b (take n bs) (drop n bs) r (within-take 1 n bs w) (within-drop 1 n bs w) (rw ln (simp length-drop (omega arith))) count
    (λ q h. (from-one-at (2 ^ (32 - b)) r t.small q h).0) in
    let later = layers-spelled f b (sum (take n bs)) (drop (n + n * b) bs) r hb h8 wd t.after in
    let z = layers f b r in
    let lc : length (take (n * b) (drop n bs)) ≡ n * b = length-take-le (n * b) (drop n bs) (simp length-drop (omega arith)) in
    let total : length (take n bs ++ (take (n * b) (drop n bs) ++ z)) ≡ n + (n * b + length z) = simp (length-append, ln, lc) in
    rw (t.values, s.bits_are, s.chunks-are, s.rests-are, ln) (rw total (take-add n (n * b + length z) bs ∙ rw (take-add (n * b) (length z) (drop n bs), drop-drop (n * b) n bs, later)))

fixed-spelled : (w n : ℕ) (bs vs : List ℕ) → Within 1 bs → kind_decoded (Fixed w) n bs ≡ all vs → take (length (fixed w vs)) bs ≡ fixed w vs
fixed-spelled w n bs vs h e =
    let t = fixed_told w n bs vs e in
    rw (length-fixed w vs, t.1, length-numbers w n bs) (sym (numbers-bits w n bs h t.0))

level-spelled : (code n : ℕ) (bs vs : List ℕ) → Within 1 bs → kind_decoded (kind_of code) n bs ≡ all vs → take (size code vs) bs ≡ level_bits code vs
unfolding kind_decoded kind_bits
level-spelled code n bs vs w e = go (kind_of code) (kind-known code) e
  where
    go : (k : Kind) → Known k code → kind_decoded k n bs ≡ all vs → take (length (kind_bits k vs)) bs ≡ kind_bits k vs
    go (Fixed v) h q = fixed-spelled v n bs vs w q
    go (Chunked b) h q = layers-spelled 32 b n bs vs h.0 h.1 w q
    go Refused h q = refl

-- ---- the part

-- zeros up to a whole byte
padding-is : (bytes : List ℕ) (m : ℕ) → length bytes ≡ bytes_for m → ((j : ℕ) → m ≤ j → get_or (bits_of bytes) j 0 ≡ 0) → drop m (bits_of bytes) ≡ padding m
padding-is bytes m l z =
    let ld : length (drop m (bits_of bytes)) ≡ bytes_for m * 8 - m = simp (length-drop, length-fixed, l) in
    let lp : length (padding m) ≡ bytes_for m * 8 - m = length-take-le (bytes_for m * 8 - m) (replicate 7 0) (omega arith) in
    ext_get_or 0 (drop m (bits_of bytes)) (padding m) (ld ∙ sym lp) (λ j h.
    get_or-drop m (bits_of bytes) j 0 ∙ z (m + j) (omega arith) ∙ sym (zeros-taken (bytes_for m * 8 - m) 7 j))

pub part-spelled : DecodedPart
part-spelled code n bytes vs e w l z =
    let level = level_bits code vs in
    let b = bits-kind (kind_of code) vs in
    let s = level-spelled code n (bits_of bytes) vs (bits-fixed 8 bytes) e in
    let p = padding-is bytes (size code vs) l z in
    fixed_same 8 (part code vs) bytes (length-padded level ∙ sym l) (within-padded level b) w (rw (bits-padded level b, ← p)
    (ap (λ (t : List ℕ). t ++ drop (size code vs) (bits_of bytes)) (sym s) ∙ take-append-drop (size code vs) (bits_of bytes)))

-- the bits after a level's are the padding's
after-level : (code : ℕ) (vs : List ℕ) → number (drop (size code vs) (bits_of (part code vs))) ≡ 0
after-level code vs =
    let level = level_bits code vs in
    let m = size code vs in
    rw (bits-padded level (bits-kind (kind_of code) vs), drop-append_seam level (padding m)) (zeros-number (padding m) (zeros-taken (bytes_for m * 8 - m) 7))

-- a part that is decoded is its values' where no bit after the level's is 1
pub same-part : (code n : ℕ) (bytes vs : List ℕ) → decoded code n bytes ≡ all vs → Within 8 bytes → length bytes ≡ bytes_for (size code vs)
    → same (part code vs) bytes ≡ eqb (number (drop (size code vs) (bits_of bytes))) 0
same-part code n bytes vs e w l = go (eqb (number (drop (size code vs) (bits_of bytes))) 0) refl
  where
    go : (t : Bool) → eqb (number (drop (size code vs) (bits_of bytes))) 0 ≡ t → same (part code vs) bytes ≡ t
    go true z =
        let m = size code vs in
        let none = number-zero (drop m (bits_of bytes)) (eqb-true _ 0 z) in
        rw (part-spelled code n bytes vs e w l (λ j h. let k : m + (j - m) ≡ j = omega arith in rw (get_or-drop m (bits_of bytes) (j - m) 0, k) at (none (j - m)))) (same_itself bytes)
    go false z = not_same (part code vs) bytes (λ p. eqb-false _ 0 z (rw p at (after-level code vs)))
