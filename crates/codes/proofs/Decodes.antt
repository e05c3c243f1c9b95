-- Decoding by the definitions: the numbers of a fixed code, a layer merged with the layers after it, and fetches, which find what is
-- decoded.
use Rattle.std.proofs.Common.{Some, None, ◌≡◌, ℕ, zero, suc, ◌+◌, ◌-◌, ◌*◌, ◌^◌, ◌<◌, ◌≤◌, Bool, true, false, cond, eqb, ltb, List, [], ◌∷◌, length, get_or, take, drop, replicate, sym, refl, ap, ◌∙◌, true≢false, le_trans, le_of_suc-le-suc, not-suc-le-zero, mul-le-mul_right, zero-mul, arith, length-drop, length-take, length-take-le, get_or-take, take-take, drop-drop, ext_get_or, pow_pos, pow-add, ltb-false, le-ltb, lt-ltb, ne_eqb, eqb-true}
use native.Mathlib.Decide.{dec_le}
use lib.ListN.{get_or-eq_default}
use lib.Arith.{digits_lt}
use Rattle.codes.specs.declared.kinds.Kind.{Kind}
use Rattle.codes.specs.declared.kinds.Kind.TheVariants.{Fixed, Chunked, Refused}
use Rattle.codes.specs.Bits.{number, sum, numbers, bits_of}
use Rattle.codes.specs.Codes.{kind_of, Within}
use Rattle.codes.specs.Fetch.{Fetched, value, fixed_at, extended, chunked_at, kind_fetched, fetched}
use Rattle.codes.specs.Decode.{Decoded, all, undecoded, merged, from_one, layered, decoded_layers, kind_decoded, is_decoded, decoded_or0}
use Rattle.codes.specs.Merging.{Says}
use Rattle.codes.specs.Promises.{Known, DecodeFetches}
use Rattle.codes.proofs.Bits.{bits-fixed, length-numbers, number-take-lt, within-drop}
use Rattle.codes.proofs.CodeByte.{kind-known}
use Rattle.codes.proofs.Fetches.{fixed-inside, sum-take-lt, fetch-step}
use Rattle.codes.proofs.Merges.{length_merged, merged-at, from-one-at}

-- ---- fixed codes

numbers-at : (w n : ℕ) (bs : List ℕ) (j : ℕ) → j < n → get_or (numbers w n bs) j 0 ≡ number (take w (drop (j * w) bs))
unfolding numbers
numbers-at w zero bs j h = absurd (not-suc-le-zero h)
numbers-at w (suc n) bs zero h = rw (zero-mul w)
numbers-at w (suc n) bs (suc j) h =
    let e : suc j * w ≡ w + j * w = omega arith in
    rw (e, ← (drop-drop (j * w) w bs)) (numbers-at w n (drop w bs) j (le_of_suc-le-suc h))

pub fixed-decoded : (w n : ℕ) (bs : List ℕ) → n * w ≤ length bs → kind_decoded (Fixed w) n bs ≡ all (numbers w n bs)
unfolding kind_decoded
fixed-decoded w n bs h = rw (le-ltb (length bs) (n * w) h)

pub fixed-undecoded : (w n : ℕ) (bs : List ℕ) → length bs < n * w → kind_decoded (Fixed w) n bs ≡ undecoded
unfolding kind_decoded
fixed-undecoded w n bs h = rw (lt-ltb (length bs) (n * w) h)

pub fixed_told : (w n : ℕ) (bs vs : List ℕ) → kind_decoded (Fixed w) n bs ≡ all vs → (n * w ≤ length bs) × (vs ≡ numbers w n bs)
unfolding kind_decoded
fixed_told w n bs vs e = go (ltb (length bs) (n * w)) refl e
  where
    go : (t : Bool) → ltb (length bs) (n * w) ≡ t → cond t undecoded (all (numbers w n bs)) ≡ all vs → (n * w ≤ length bs) × (vs ≡ numbers w n bs)
    go true p q = absurd (true≢false (sym (ap is_decoded q)))
    go false p q = (ltb-false (length bs) (n * w) p, sym (ap (decoded_or0 0) q))

-- a list with these entries
pub numbers-are : (w n : ℕ) (bs vs : List ℕ) → length vs ≡ n → ((q : ℕ) → q < n → get_or vs q 0 ≡ number (take w (drop (q * w) bs))) → vs ≡ numbers w n bs
numbers-are w n bs vs l e =
    ext_get_or 0 vs (numbers w n bs) (l ∙ sym (length-numbers w n bs)) (λ q h. e q (rw l at h) ∙ sym (numbers-at w n bs q (rw l at h)))

pub numbers-none : (n : ℕ) (bs : List ℕ) → numbers 0 n bs ≡ replicate n 0
unfolding numbers number
numbers-none zero bs = refl
numbers-none (suc n) bs = ap (λ (l : List ℕ). 0 ∷ l) (numbers-none n bs)

-- ---- layers

pub layers-none : (f b : ℕ) (bs : List ℕ) → decoded_layers f b 0 bs ≡ all []
unfolding decoded_layers merged sum
layers-none zero b bs = refl
layers-none (suc f) b bs = rw (le-ltb (length bs) (0 + 0 * b) (omega arith), layers-none f b (drop (0 + 0 * b) bs))

pub layers-stopped : (b n : ℕ) (bs : List ℕ) → 1 ≤ n → decoded_layers 0 b n bs ≡ undecoded
unfolding decoded_layers
layers-stopped b n bs h = rw (ne_eqb n 0 (λ e. absurd (omega arith)))

pub layers-short : (f b n : ℕ) (bs : List ℕ) → length bs < n + n * b → decoded_layers (suc f) b n bs ≡ undecoded
unfolding decoded_layers
layers-short f b n bs h = rw (lt-ltb (length bs) (n + n * b) h)

pub layers-step : (f b n : ℕ) (bs : List ℕ) → n + n * b ≤ length bs
    → decoded_layers (suc f) b n bs ≡ layered b (take n bs) (drop n bs) (decoded_layers f b (sum (take n bs)) (drop (n + n * b) bs))
unfolding decoded_layers
layers-step f b n bs h = rw (le-ltb (length bs) (n + n * b) h)

-- the same by the place in the part, by what the layers after have
pub layers-at : (f b n at rests : ℕ) (bs : List ℕ) (d : Decoded) → 1 ≤ f → at + (n + n * b) ≤ length bs → rests ≡ sum (take n (drop at bs))
    → decoded_layers (f - 1) b rests (drop (at + (n + n * b)) bs) ≡ d → decoded_layers f b n (drop at bs) ≡ layered b (take n (drop at bs)) (drop n (drop at bs)) d
layers-at zero b n at rests bs d h l e later = absurd (not-suc-le-zero h)
layers-at (suc f) b n at rests bs d h l e later =
    let q : suc f - 1 ≡ f = omega arith in
    rw (layers-step f b n (drop at bs) (simp length-drop (omega arith)), drop-drop (n + n * b) at bs, ← e) (rw (← (rw q at later)))

-- where no layer may follow there are no values
none_told : (b n : ℕ) (bs vs : List ℕ) → decoded_layers 0 b n bs ≡ all vs → (n ≡ 0) × (vs ≡ [])
unfolding decoded_layers
none_told b n bs vs e = go (eqb n 0) refl e
  where
    go : (t : Bool) → eqb n 0 ≡ t → cond t (all []) undecoded ≡ all vs → (n ≡ 0) × (vs ≡ [])
    go true p q = (eqb-true n 0 p, sym (ap (decoded_or0 0) q))
    go false p q = absurd (true≢false (sym (ap is_decoded q)))

-- a layer that is decoded lies in the part, and those after it are decoded to its rests
pub record Layer (f b n : ℕ) (bs vs : List ℕ) : Type 0 where
  pub rests : List ℕ
  pub whole : n + n * b ≤ length bs
  pub after : decoded_layers f b (sum (take n bs)) (drop (n + n * b) bs) ≡ all rests
  pub small : from_one (2 ^ (32 - b)) rests ≡ true
  pub values : vs ≡ merged b (take n bs) (drop n bs) rests

pub layer-told : (f b n : ℕ) (bs vs : List ℕ) → decoded_layers (suc f) b n bs ≡ all vs → Layer f b n bs vs
unfolding decoded_layers
layer-told f b n bs vs e = whole (ltb (length bs) (n + n * b)) refl (decoded_layers f b (sum (take n bs)) (drop (n + n * b) bs)) refl e
  where
    whole : (t : Bool) → ltb (length bs) (n + n * b) ≡ t → (d : Decoded) → decoded_layers f b (sum (take n bs)) (drop (n + n * b) bs) ≡ d
        → cond t undecoded (layered b (take n bs) (drop n bs) d) ≡ all vs → Layer f b n bs vs
    whole true p d r q = absurd (true≢false (sym (ap is_decoded q)))
    whole false p undecoded r q = absurd (true≢false (sym (ap is_decoded q)))
    whole false p (all rests) r q = fit (from_one (2 ^ (32 - b)) rests) refl q
      where
        fit : (t : Bool) → from_one (2 ^ (32 - b)) rests ≡ t → cond t (all (merged b (take n bs) (drop n bs) rests)) undecoded ≡ all vs → Layer f b n bs vs
        fit true s q' = record { rests = rests; whole = ltb-false (length bs) (n + n * b) p; after = r; small = s; values = sym (ap (decoded_or0 0) q') }
        fit false s q' = absurd (true≢false (sym (ap is_decoded q')))

-- ---- what is decoded is what fetches find

-- a value that fetches find, with what a fetch finds above it
value-back : (b c m x : ℕ) (d : Fetched) → m < 2 → (m ≡ 1 → d ≡ value x) → cond (eqb m 0) (value c) (extended b c d) ≡ value (c + m * (2 ^ b * x))
value-back b c zero x d h e = ap value (omega arith)
value-back b c (suc zero) x d h e = rw (e refl) (ap value (omega arith))
value-back b c (suc (suc m)) x d h e = absurd (omega arith)

-- each value of the layers is small enough, and a fetch finds it
pub record Fetches (b n : ℕ) (bs vs : List ℕ) : Type 0 where
  pub count : length vs ≡ n
  pub within : Within 32 vs
  pub found : (j : ℕ) → j < n → chunked_at b n j bs ≡ value (get_or vs j 0)

module _ (b n : ℕ) (bs rests : List ℕ) (hb : 1 ≤ b) (h8 : b ≤ 8) (w : Within 1 bs) (l : n + n * b ≤ length bs)
    (small : from_one (2 ^ (32 - b)) rests ≡ true) (later : Fetches b (sum (take n bs)) (drop (n + n * b) bs) rests) where
  -- value j: its chunk, and what is above
  at_value : (j : ℕ) → j < n → get_or (merged b (take n bs) (drop n bs) rests) j 0
      ≡ number (take b (drop (n + j * b) bs)) + get_or bs j 0 * (2 ^ b * get_or rests (sum (take j bs)) 0)
  at_value j h =
      let m : length (take n bs) ≡ n = length-take-le n bs (omega arith) in
      let v = merged-at b (take n bs) (drop n bs) rests j (omega arith) in
      rw (drop-drop (j * b) n bs, get_or-take n bs j 0 h, take-take j n bs (omega arith)) at v

  value-within : (j : ℕ) → j < n → get_or (merged b (take n bs) (drop n bs) rests) j 0 < 2 ^ 32
  value-within j h =
      let e : 32 - b + b ≡ 32 = omega arith in
      let c = number-take-lt (drop (n + j * b) bs) b (within-drop 1 (n + j * b) bs w) in
      let r = rest-small (sum (take j bs)) in
      let top = rw (← (pow-add 2 (32 - b) b), e) at (digits_lt {c = 2 ^ b} r c) in
      rw (at_value j h) (bit-lt (number (take b (drop (n + j * b) bs))) (get_or bs j 0) (get_or rests (sum (take j bs)) 0) (w j) top)
    where
      rest-small : (q : ℕ) → get_or rests q 0 < 2 ^ (32 - b)
      rest-small q = elim (dec_le (length rests) q) [ yes k ↦ rw (get_or-eq_default rests 0 k) (pow_pos (32 - b)) | no k ↦ (from-one-at (2 ^ (32 - b)) rests small q (omega arith)).1 ]

      bit-lt : (c m x : ℕ) → m < 2 → x * 2 ^ b + c < 2 ^ 32 → c + m * (2 ^ b * x) < 2 ^ 32
      bit-lt c zero x h k = omega arith
      bit-lt c (suc zero) x h k = omega arith
      bit-lt c (suc (suc m)) x h k = absurd (omega arith)

  layer-fetches : Fetches b n bs (merged b (take n bs) (drop n bs) rests)
  layer-fetches = record {
    count = length_merged b (take n bs) (drop n bs) rests ∙ length-take-le n bs (omega arith);
    within = λ j. elim (dec_le n j) [ yes k ↦ rw (get_or-eq_default (merged b (take n bs) (drop n bs) rests) 0 {n = j} (rw (length_merged b (take n bs) (drop n bs) rests) (simp length-take (omega arith)))) (pow_pos 32) | no k ↦ value-within j (omega arith) ];
    found = λ j h.
        fetch-step b n j bs h ∙ rw (le-ltb (length bs) (n + n * b) l, at_value j h)
        (value-back b (number (take b (drop (n + j * b) bs))) (get_or bs j 0) (get_or rests (sum (take j bs)) 0) _ (w j) (λ one.
        later.found (sum (take j bs)) (sum-take-lt bs j n h (ne_eqb (get_or bs j 0) 0 (λ z. absurd (omega arith))))));
  }

pub layers-fetches : (f b n : ℕ) (bs vs : List ℕ) → 1 ≤ b → b ≤ 8 → Within 1 bs → decoded_layers f b n bs ≡ all vs → Fetches b n bs vs
layers-fetches zero b n bs vs hb h8 w e =
    let t = none_told b n bs vs e in
    rw t.1 (record { count = sym t.0; within = λ j. pow_pos 32; found = λ j h. absurd (omega arith) })
layers-fetches (suc f) b n bs vs hb h8 w e =
    let t = layer-told f b n bs vs e in
    rw t.values (layer-fetches b n bs t.rests hb h8 w t.whole t.small
    (layers-fetches f b (sum (take n bs)) (drop (n + n * b) bs) t.rests hb h8 (within-drop 1 (n + n * b) bs w) t.after))

-- a fixed code, and any
fixed-fetches : (w n : ℕ) (bs vs : List ℕ) → kind_decoded (Fixed w) n bs ≡ all vs → (length vs ≡ n) × ((j : ℕ) → j < n → fixed_at w j bs ≡ value (get_or vs j 0))
fixed-fetches w n bs vs e =
    let t = fixed_told w n bs vs e in
    rw t.1 (
      length-numbers w n bs,
      λ j h. let k : j + 1 ≤ n = omega arith in fixed-inside w j bs (le_trans (mul-le-mul_right w k) t.0) ∙ ap value (sym (numbers-at w n bs j h)),
    )

pub decoded-fetched : DecodeFetches
unfolding kind_decoded fetched
decoded-fetched code n bytes vs e = go (kind_of code) (kind-known code) e
  where
    bs : List ℕ
    bs = bits_of bytes

    go : (k : Kind) → Known k code → kind_decoded k n bs ≡ all vs → (length vs ≡ n) × ((j : ℕ) → j < n → kind_fetched k n j bs ≡ value (get_or vs j 0))
    go (Fixed w) h q = fixed-fetches w n bs vs q
    go (Chunked b) h q =
        let f = layers-fetches 32 b n bs vs h.0 h.1 (bits-fixed 8 bytes) q in
        (f.count, λ j k. rw (f.found j k, lt-ltb (get_or vs j 0) (2 ^ 32) (f.within j)))
    go Refused h q = absurd (true≢false (sym (ap is_decoded q)))

-- ---- what an answer says

pub says-none : (d : Decoded) (now : List ℕ) → Says d None now → d ≡ undecoded
says-none (all vs) now s = cc
says-none undecoded now s = refl

pub says-some : (d : Decoded) {u : Unit} (now : List ℕ) → Says d (Some u) now → d ≡ all now
says-some (all vs) now s = ap all (sym s.1)
says-some undecoded now s = cc
