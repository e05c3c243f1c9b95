-- A fetch from the part of a level, with anything after it, gives each value back, and decoding all of them.
use Rattle.std.proofs.Common.{◌≡◌, ℕ, zero, suc, ◌+◌, ◌-◌, ◌*◌, ◌/◌, ◌%◌, ◌^◌, ◌<◌, ◌≤◌, Bool, true, false, cond, eqb, List, [], ◌∷◌, ◌++◌, map, length, get_or, take, drop, replicate, sym, refl, ap, ◌∙◌, append_assoc, append-nil, mul-le-mul_right, arith, length-append, take_at, drop_at, shr_lt, lt-ltb, eqb-true}
use Rattle.std.proofs.lemmas.Bool.{eqb-false}
use Rattle.std.proofs.lemmas.List.{length-map}
use native.Mathlib.Nat.{mod-add-div}
use lib.Seq.{take-append-add, drop-append-add}
use Rattle.codes.specs.declared.kinds.Kind.{Kind}
use Rattle.codes.specs.declared.kinds.Kind.TheVariants.{Fixed, Chunked, Refused}
use Rattle.codes.specs.Bits.{bits, fixed, bytes_for, padded, bits_of}
use Rattle.codes.specs.Codes.{kind_of, continuation, rest, layers, chunked, kind_bits, part, Within, Holds}
use Rattle.codes.specs.Fetch.{value, chunked_at, kind_fetched, fetched}
use Rattle.codes.specs.Decode.{all, merged, from_one, decoded_layers, kind_decoded}
use Rattle.codes.specs.Promises.{Known, DecodeBack}
use Rattle.codes.proofs.Bits.{within-append, bits-fixed, length-bits, length-fixed, number-bits, fixed-append, numbers-bits, within-numbers, fixed-fetch}
use Rattle.codes.proofs.CodeByte.{kind-known}
use Rattle.codes.proofs.Decodes.{fixed-decoded, numbers-are, layers-none, layers-step}
use Rattle.codes.proofs.Fetches.{fixed-inside, fetch-enough, layers-back}
use Rattle.codes.proofs.Layers.{sum-continuations, within-rest, within_more, rest-none, bits-layers}
use Rattle.codes.proofs.Lists.{zeros-at}

-- the zero bits that pad so many bits
abbrev pub padding : ℕ → List ℕ
padding n = take (bytes_for n * 8 - n) (replicate 7 0)

padding-bits : (bs : List ℕ) → Within 1 bs → Within 1 (bs ++ replicate 7 0)
padding-bits bs h = within-append 1 bs (replicate 7 0) h (λ j. rw (zeros-at 7 j) (omega arith))

pub bits-padded : (bs : List ℕ) → Within 1 bs → bits_of (padded bs) ≡ bs ++ padding (length bs)
unfolding padded
bits-padded bs h =
    let n = length bs in
    let k = bytes_for n in
    let e : k * 8 ≡ n + (k * 8 - n) = omega arith in
    numbers-bits 8 k (bs ++ replicate 7 0) (padding-bits bs h) (simp length-append (omega arith))
    ∙ ap (λ (m : ℕ). take m (bs ++ replicate 7 0)) e ∙ take-append-add bs (replicate 7 0) (k * 8 - n)

pub within-padded : (bs : List ℕ) → Within 1 bs → Within 8 (padded bs)
unfolding padded
within-padded bs h = within-numbers 8 (bytes_for (length bs)) (bs ++ replicate 7 0) (padding-bits bs h)

pub bits-kind : (k : Kind) (vs : List ℕ) → Within 1 (kind_bits k vs)
unfolding kind_bits
bits-kind (Fixed w) vs j = bits-fixed w vs j
bits-kind (Chunked b) vs j = bits-layers 32 b vs j
bits-kind Refused vs j = omega arith

-- a part's bits are the level's, and then others
bits-part : (code : ℕ) (vs after : List ℕ) → let bs = kind_bits (kind_of code) vs in bits_of (part code vs ++ after) ≡ bs ++ (padding (length bs) ++ bits_of after)
bits-part code vs after =
    let bs = kind_bits (kind_of code) vs in
    rw (fixed-append 8 (part code vs) after, bits-padded bs (bits-kind (kind_of code) vs), append_assoc bs (padding (length bs)) (bits_of after))

fixed_back : (w : ℕ) (vs after : List ℕ) (j : ℕ) → j < length vs → get_or vs j 0 < 2 ^ w
    → kind_fetched (Fixed w) (length vs) j (fixed w vs ++ after) ≡ value (get_or vs j 0)
fixed_back w vs after j hj hv =
    let m : (j + 1) * w ≤ length vs * w = mul-le-mul_right w (omega arith) in
    fixed-inside w j (fixed w vs ++ after) (simp (length-append, length-fixed) (omega arith)) ∙ ap value (fixed-fetch w vs j after hj hv)

chunked-back : (b : ℕ) (vs after : List ℕ) (j : ℕ) → 1 ≤ b → j < length vs → get_or vs j 0 < 2 ^ 32
    → kind_fetched (Chunked b) (length vs) j (chunked b vs ++ after) ≡ value (get_or vs j 0)
unfolding chunked_at
chunked-back b vs after j hb hj hv =
    let l = chunked b vs ++ after in
    rw (
      fetch-enough (suc (length l)) (suc (length l + 31)) b (length vs) j l (omega arith) (omega arith) hj,
      layers-back 31 (length l + 31) b vs j after hb (omega arith) hj hv,
      lt-ltb (get_or vs j 0) (2 ^ 32) hv,
    )

kind-back : (k : Kind) (code : ℕ) (vs after : List ℕ) (j : ℕ) → Known k code → Holds k vs → j < length vs
    → kind_fetched k (length vs) j (kind_bits k vs ++ after) ≡ value (get_or vs j 0)
unfolding kind_bits
kind-back (Fixed w) code vs after j n h hj = fixed_back w vs after j hj (h j)
kind-back (Chunked b) code vs after j n h hj = chunked-back b vs after j n.0 hj (h j)
kind-back Refused code vs after j n h hj = absurd h

pub part-back : (code : ℕ) (vs after : List ℕ) (j : ℕ) → Holds (kind_of code) vs → j < length vs → fetched code (length vs) j (part code vs ++ after) ≡ value (get_or vs j 0)
unfolding fetched
part-back code vs after j h hj = rw (bits-part code vs after) (kind-back (kind_of code) code vs _ j (kind-known code) h hj)

-- ---- decoding

-- a layer that was written is merged with what is left of its values
merged-back : (b : ℕ) (vs after : List ℕ) → merged b (map (continuation b) vs) (fixed b vs ++ after) (rest b vs) ≡ vs
unfolding merged rest fixed
merged-back b [] after = refl
merged-back b (v ∷ vs) after =
    let l = length-bits b v in
    rw (append_assoc (bits b v) (fixed b vs) after, take_at (bits b v) (fixed b vs ++ after) b l, drop_at (bits b v) (fixed b vs ++ after) b l, number-bits b v)
    (go (eqb (v / 2 ^ b) 0) refl (merged-back b vs after))
  where
    go : (t : Bool) → eqb (v / 2 ^ b) 0 ≡ t → merged b (map (continuation b) vs) (fixed b vs ++ after) (rest b vs) ≡ vs
        → let rests = cond t (rest b vs) (v / 2 ^ b ∷ rest b vs) in
        (v % 2 ^ b + cond t 0 1 * (2 ^ b * get_or rests 0 0)) ∷ merged b (map (continuation b) vs) (fixed b vs ++ after) (drop (cond t 0 1) rests) ≡ v ∷ vs
    go true e ih =
        let x : v % 2 ^ b + 0 * (2 ^ b * get_or (rest b vs) 0 0) ≡ v = omega (arith, mod-add-div v (2 ^ b), ap (λ (q : ℕ). 2 ^ b * q) (eqb-true (v / 2 ^ b) 0 e)) in
        rw (x, ih)
    go false e ih =
        let x : v % 2 ^ b + 1 * (2 ^ b * (v / 2 ^ b)) ≡ v = omega (arith, mod-add-div v (2 ^ b)) in
        rw (x, ih)

rest-small : (b : ℕ) (vs : List ℕ) → b ≤ 8 → Within 32 vs → from_one (2 ^ (32 - b)) (rest b vs) ≡ true
unfolding rest
rest-small b [] h w = refl
rest-small b (v ∷ vs) h w = go (eqb (v / 2 ^ b) 0) refl (rest-small b vs h (λ j. w (suc j)))
  where
    small : v / 2 ^ b < 2 ^ (32 - b)
    small = let e : 32 - b + b ≡ 32 = omega arith in shr_lt (32 - b) b (rw e (w 0))

    go : (t : Bool) → eqb (v / 2 ^ b) 0 ≡ t → from_one (2 ^ (32 - b)) (rest b vs) ≡ true → from_one (2 ^ (32 - b)) (cond t (rest b vs) (v / 2 ^ b ∷ rest b vs)) ≡ true
    go true e ih = ih
    go false e ih = rw (lt-ltb 0 (v / 2 ^ b) (omega (arith, eqb-false (v / 2 ^ b) 0 e)), lt-ltb (v / 2 ^ b) (2 ^ (32 - b)) small) ih

-- one layer, where those after it are decoded to what is left
layer-decoded : (f b : ℕ) (vs after : List ℕ) → b ≤ 8 → Within 32 vs → decoded_layers f b (length (rest b vs)) (layers f b (rest b vs) ++ after) ≡ all (rest b vs)
    → decoded_layers (suc f) b (length vs) (layers (suc f) b vs ++ after) ≡ all vs
unfolding layers
layer-decoded f b vs after h8 h e =
    let ms = map (continuation b) vs in
    let z = layers f b (rest b vs) ++ after in
    let n = length vs in
    let lm : length ms ≡ n = length-map vs (continuation b) in
    let lf : length (fixed b vs) ≡ n * b = length-fixed b vs in
    let p : ms ++ (fixed b vs ++ layers f b (rest b vs)) ++ after ≡ ms ++ (fixed b vs ++ z) =
    append_assoc ms (fixed b vs ++ layers f b (rest b vs)) after ∙ ap (λ (l : List ℕ). ms ++ l) (append_assoc (fixed b vs) (layers f b (rest b vs)) after) in
    let q : drop (n + n * b) (ms ++ (fixed b vs ++ z)) ≡ z = rw (← lm) (drop-append-add ms (fixed b vs ++ z) (length ms * b)) ∙ drop_at (fixed b vs) z (n * b) lf in
    rw p (layers-step f b n (ms ++ (fixed b vs ++ z)) (simp (length-append, lm, lf) (omega arith))
    ∙ rw (take_at ms (fixed b vs ++ z) n lm, drop_at ms (fixed b vs ++ z) n lm, q, sum-continuations b vs, e, rest-small b vs h8 h, merged-back b vs z))

layers-decoded : (f b : ℕ) (vs after : List ℕ) → 1 ≤ b → b ≤ 8 → Within (suc f) vs → Within 32 vs
    → decoded_layers (suc f) b (length vs) (layers (suc f) b vs ++ after) ≡ all vs
layers-decoded zero b vs after hb h8 w h = layer-decoded 0 b vs after h8 h (rw (rest-none b vs (within_more 1 b vs hb w)) (layers-none 0 b _))
layers-decoded (suc f) b vs after hb h8 w h =
    layer-decoded (suc f) b vs after h8 h (layers-decoded f b (rest b vs) after hb h8 (within-rest b (suc f) vs hb w) (within_more 31 32 (rest b vs) (omega arith) (within-rest b 31 vs hb h)))

fixed-decoded-back : (w : ℕ) (vs after : List ℕ) → Within w vs → kind_decoded (Fixed w) (length vs) (fixed w vs ++ after) ≡ all vs
fixed-decoded-back w vs after h =
    fixed-decoded w (length vs) (fixed w vs ++ after) (simp (length-append, length-fixed) (omega arith))
    ∙ ap all (sym (numbers-are w (length vs) (fixed w vs ++ after) vs refl (λ q k. sym (fixed-fetch w vs q after k (h q)))))

pub part-decoded : DecodeBack
unfolding kind_decoded kind_bits
part-decoded code vs h =
    rw (← (append-nil (part code vs)), bits-part code vs []) (go (kind_of code) (kind-known code) h)
  where
    go : (k : Kind) → Known k code → Holds k vs → kind_decoded k (length vs) (kind_bits k vs ++ (padding (length (kind_bits k vs)) ++ bits_of [])) ≡ all vs
    go (Fixed w) n k = fixed-decoded-back w vs (padding (length (fixed w vs)) ++ bits_of []) k
    go (Chunked b) n k = layers-decoded 31 b vs _ n.0 n.1 k k
    go Refused n k = absurd k
