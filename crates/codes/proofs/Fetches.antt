-- A fetch by the definitions: a fixed code's value, a layer of a chunked code, and the equation without the number of layers.
use Rattle.std.proofs.Common.{◌≡◌, ℕ, zero, suc, ◌+◌, ◌*◌, ◌/◌, ◌%◌, ◌^◌, ◌<◌, ◌≤◌, Bool, true, false, cond, eqb, ltb, List, [], ◌∷◌, ◌++◌, map, length, get_or, take, drop, refl, ap, ◌∙◌, append_assoc, le_of_suc-le-suc, not-suc-le-zero, arith, length-append, length-drop, take_at, drop_at, ltb-false, le-ltb, eqb-true, Some, None}
use Rattle.std.proofs.lemmas.Bool.{eqb-false}
use Rattle.std.proofs.lemmas.List.{length-map, take-append-le}
use native.Mathlib.Nat.{zero-div, mod-add-div}
use Rattle.std.proofs.lemmas.Option.{none-some, same_Some}
use lib.ListN.{get_or-append, get_or-map}
use lib.Seq.{drop-append-add}
use Rattle.codes.specs.declared.kinds.Kind.{Kind}
use Rattle.codes.specs.declared.kinds.Kind.TheVariants.{Fixed, Chunked, Refused}
use Rattle.codes.specs.Bits.{number, sum, fixed, bits_of}
use Rattle.codes.specs.Codes.{kind_of, continuation, rest, layers}
use Rattle.codes.specs.Fetch.{Fetched, value, outside, fixed_at, extended, fetch_layers, chunked_at, kind_fetched, fetched, Inside, short_at}
use Rattle.codes.specs.Promises.{ShortFetches}
use Rattle.codes.proofs.Bits.{length-fixed, fixed-at, number-bits}
use Rattle.codes.proofs.Layers.{sum-continuations, rest_at, div-lt}

-- ---- fixed codes

pub fixed-inside : (w j : ℕ) (bs : List ℕ) → (j + 1) * w ≤ length bs → fixed_at w j bs ≡ value (number (take w (drop (j * w) bs)))
unfolding fixed_at
fixed-inside w j bs h = rw (le-ltb (length bs) ((j + 1) * w) h)

short-kind : (k : Kind) (count j v : ℕ) (bytes : List ℕ) → Inside k j (length bytes) → short_at k j (bits_of bytes) ≡ Some v
    → kind_fetched k count j (bits_of bytes) ≡ value v
unfolding short_at
short-kind (Fixed w) count j v bytes i h =
    go (ltb 25 w) (ltb (length (bits_of bytes)) 32) h
  where
    go : (wide few : Bool) → cond wide None (cond few None (Some (number (take w (drop (j * w) (bits_of bytes)))))) ≡ Some v → fixed_at w j (bits_of bytes) ≡ value v
    go true few e = absurd (none-some v e)
    go false true e = absurd (none-some v e)
    go false false e = fixed-inside w j (bits_of bytes) (rw (length-fixed 8 bytes) i) ∙ ap value (same_Some _ v e)
short-kind (Chunked b) count j v bytes i h = absurd (none-some v h)
short-kind Refused count j v bytes i h = absurd (none-some v h)

-- a short fetch that says something
pub short-fetched : ShortFetches
unfolding fetched
short-fetched code count j v bytes i h = short-kind (kind_of code) count j v bytes i h

-- ---- chunked codes, without the number of layers

-- a one at j counts among the first n, and not among the first j
pub sum-take-lt : (bs : List ℕ) (j n : ℕ) → j < n → eqb (get_or bs j 0) 0 ≡ false → sum (take j bs) < sum (take n bs)
unfolding sum
sum-take-lt [] j n h e = absurd (eqb-false 0 0 e refl)
sum-take-lt (x ∷ bs) j zero h e = absurd (not-suc-le-zero h)
sum-take-lt (x ∷ bs) zero (suc n) h e = omega (arith, eqb-false x 0 e)
sum-take-lt (x ∷ bs) (suc j) (suc n) h e = omega (arith, sum-take-lt bs j n (le_of_suc-le-suc h) e)

-- one layer of a fetch, with d for the fetch of what follows it
abbrev pub layer_of : ℕ → ℕ → ℕ → List ℕ → Fetched → Fetched
layer_of b n j bs d =
    cond (ltb (length bs) (n + n * b)) outside
    (cond (eqb (get_or bs j 0) 0) (value (number (take b (drop (n + j * b) bs)))) (extended b (number (take b (drop (n + j * b) bs))) d))

-- d counts only where the layer is whole and its bit j is set
layer-same : (b n j : ℕ) (bs : List ℕ) (d e : Fetched) → (n + n * b ≤ length bs → eqb (get_or bs j 0) 0 ≡ false → d ≡ e)
    → layer_of b n j bs d ≡ layer_of b n j bs e
layer-same b n j bs d e same = go (ltb (length bs) (n + n * b)) (eqb (get_or bs j 0) 0) refl refl
  where
    c : ℕ
    c = number (take b (drop (n + j * b) bs))

    go : (s t : Bool) → ltb (length bs) (n + n * b) ≡ s → eqb (get_or bs j 0) 0 ≡ t
        → cond s outside (cond t (value c) (extended b c d)) ≡ cond s outside (cond t (value c) (extended b c e))
    go true t p q = refl
    go false true p q = refl
    go false false p q = ap (extended b c) (same (ltb-false (length bs) (n + n * b) p) q)

-- more layers than bits change nothing
pub fetch-enough : (f g b n j : ℕ) (bs : List ℕ) → length bs < f → length bs < g → j < n → fetch_layers f b n j bs ≡ fetch_layers g b n j bs
unfolding fetch_layers
fetch-enough zero g b n j bs hf hg h = absurd (not-suc-le-zero hf)
fetch-enough (suc f) zero b n j bs hf hg h = absurd (not-suc-le-zero hg)
fetch-enough (suc f) (suc g) b n j bs hf hg h =
    let n' = sum (take n bs) in
    let j' = sum (take j bs) in
    let bs' = drop (n + n * b) bs in
    layer-same b n j bs (fetch_layers f b n' j' bs') (fetch_layers g b n' j' bs') (λ l q.
    fetch-enough f g b n' j' bs' (simp length-drop (omega arith)) (simp length-drop (omega arith)) (sum-take-lt bs j n h q))

pub fetch-step : (b n j : ℕ) (bs : List ℕ) → j < n
    → chunked_at b n j bs ≡ layer_of b n j bs (chunked_at b (sum (take n bs)) (sum (take j bs)) (drop (n + n * b) bs))
unfolding chunked_at fetch_layers
fetch-step b n j bs h =
    let n' = sum (take n bs) in
    let j' = sum (take j bs) in
    let bs' = drop (n + n * b) bs in
    layer-same b n j bs (fetch_layers (length bs) b n' j' bs') (chunked_at b n' j' bs') (λ l q.
    fetch-enough (length bs) (suc (length bs')) b n' j' bs' (simp length-drop (omega arith)) (omega arith) (sum-take-lt bs j n h q))

-- ---- a fetch from layers that were written

-- bits that begin with continuation bits m and as many chunks c
one-layer : (g b j : ℕ) (m c z : List ℕ) → length c ≡ length m * b → j < length m
    → let v = number (take b (drop (j * b) (c ++ z))) in
    fetch_layers (suc g) b (length m) j (m ++ (c ++ z))
    ≡ cond (eqb (get_or m j 0) 0) (value v) (extended b v (fetch_layers g b (sum m) (sum (take j m)) z))
unfolding fetch_layers
one-layer g b j m c z lc h =
    rw (
      le-ltb (length (m ++ (c ++ z))) (length m + length m * b) (simp (length-append, lc) (omega arith)),
      drop-append-add m (c ++ z) (j * b),
      drop-append-add m (c ++ z) (length m * b),
      drop_at c z (length m * b) lc,
      take_at m (c ++ z) (length m) refl,
      take-append-le j m (c ++ z) (omega arith),
      get_or-append m (c ++ z) 0 j h,
    )

-- value j of a layer, where a fetch of what is left of it gives that back
layer-back : (f g b : ℕ) (vs : List ℕ) (j : ℕ) (after : List ℕ) → j < length vs
    → (eqb (get_or vs j 0 / 2 ^ b) 0 ≡ false
    → fetch_layers g b (length (rest b vs)) (sum (take j (map (continuation b) vs))) (layers f b (rest b vs) ++ after) ≡ value (get_or vs j 0 / 2 ^ b))
    → fetch_layers (suc g) b (length vs) j (layers (suc f) b vs ++ after) ≡ value (get_or vs j 0)
unfolding layers
layer-back f g b vs j after h ih =
    let x = get_or vs j 0 in
    let m = map (continuation b) vs in
    let z = layers f b (rest b vs) ++ after in
    let lm : length m ≡ length vs = length-map vs (continuation b) in
    let mj : get_or m j 0 ≡ continuation b x = rw (zero-div (2 ^ b)) at (get_or-map (continuation b) vs j 0) in
    let step = one-layer g b j m (fixed b vs) z (rw lm (length-fixed b vs)) (rw lm h) in
    rw (append_assoc m (fixed b vs ++ layers f b (rest b vs)) after, append_assoc (fixed b vs) (layers f b (rest b vs)) after)
    (rw lm at step ∙ rw (fixed-at b vs j z h, number-bits b x, mj, sum-continuations b vs) (go (eqb (x / 2 ^ b) 0) refl))
  where
    go : (t : Bool) → eqb (get_or vs j 0 / 2 ^ b) 0 ≡ t
        → cond (eqb (cond t 0 1) 0) (value (get_or vs j 0 % 2 ^ b))
        (extended b (get_or vs j 0 % 2 ^ b) (fetch_layers g b (length (rest b vs)) (sum (take j (map (continuation b) vs))) (layers f b (rest b vs) ++ after)))
        ≡ value (get_or vs j 0)
    go true e = ap value (omega (arith, mod-add-div (get_or vs j 0) (2 ^ b), ap (λ (q : ℕ). 2 ^ b * q) (eqb-true (get_or vs j 0 / 2 ^ b) 0 e)))
    go false e = rw (ih e) (ap value (omega (arith, mod-add-div (get_or vs j 0) (2 ^ b))))

-- only value j has to be small
pub layers-back : (f g b : ℕ) (vs : List ℕ) (j : ℕ) (after : List ℕ) → 1 ≤ b → f ≤ g → j < length vs → get_or vs j 0 < 2 ^ suc f
    → fetch_layers (suc g) b (length vs) j (layers (suc f) b vs ++ after) ≡ value (get_or vs j 0)
layers-back zero g b vs j after hb hg hj hv =
    layer-back zero g b vs j after hj (λ e. absurd (eqb-false (get_or vs j 0 / 2 ^ b) 0 e (omega (arith, div-lt b 0 (get_or vs j 0) hb hv))))
layers-back (suc f) zero b vs j after hb hg hj hv = absurd (not-suc-le-zero hg)
layers-back (suc f) (suc g) b vs j after hb hg hj hv =
    layer-back (suc f) (suc g) b vs j after hj (λ e.
    let r = rest_at b vs j hj e in
    let v = div-lt b (suc f) (get_or vs j 0) hb hv in
    layers-back f g b (rest b vs) (sum (take j (map (continuation b) vs))) after hb (le_of_suc-le-suc hg) r.0 (rw r.1 v) ∙ ap value r.1)
