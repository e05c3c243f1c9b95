-- A layer merged with the layers after it, from the last value to the first, and values that leave room for more bits.
use Rattle.std.proofs.Common.{◌≡◌, ℕ, zero, suc, ◌+◌, ◌-◌, ◌*◌, ◌^◌, ◌<◌, ◌≤◌, Bool, true, false, ◌&&◌, eqb, ltb, List, [], ◌∷◌, length, get_or, take, drop, set, sym, refl, ap, ◌∙◌, le_of_suc-le-suc, not-suc-le-zero, zero-mul, arith, length-drop, length-take-le, get_or-drop, get_or-set_other, get_or-set_same, drop-drop, ext_get_or, ltb-true, eqb-true}
use Rattle.std.proofs.lemmas.Bool.{eqb-false}
use mathlib.Core.Bool.{and-eq-true_iff}
use Rattle.std.proofs.lemmas.List.Recursion.{and_at}
use Rattle.codes.specs.Bits.{number, sum, bits_of}
use Rattle.codes.specs.Codes.{Within}
use Rattle.codes.specs.Decode.{merged, from_one}
use Rattle.codes.specs.Merging.{Merging, Small, continuations_at}
use Rattle.codes.proofs.Bits.{length-fixed, sum-take-suc, sum-le}

-- ---- a layer

pub length_merged : (b : ℕ) (ms bs rests : List ℕ) → length (merged b ms bs rests) ≡ length ms
unfolding merged
length_merged b [] bs rests = refl
length_merged b (m ∷ ms) bs rests = ap suc (length_merged b ms (drop b bs) (drop m rests))

-- a value has its chunk, and above it the rest that the ones before it count
pub merged-at : (b : ℕ) (ms bs rests : List ℕ) (j : ℕ) → j < length ms
    → get_or (merged b ms bs rests) j 0 ≡ number (take b (drop (j * b) bs)) + get_or ms j 0 * (2 ^ b * get_or rests (sum (take j ms)) 0)
unfolding merged sum
merged-at b [] bs rests j h = absurd (not-suc-le-zero h)
merged-at b (m ∷ ms) bs rests zero h = rw (zero-mul b)
merged-at b (m ∷ ms) bs rests (suc j) h =
    let e : suc j * b ≡ b + j * b = omega arith in
    rw (e, ← (drop-drop (j * b) b bs)) (rw get_or-drop at (merged-at b ms (drop b bs) (drop m rests) j (le_of_suc-le-suc h)))

-- ---- the merge, from the last value to the first

pub length-continuations : (bytes : List ℕ) (at n : ℕ) → at + n ≤ length bytes * 8 → length (continuations_at bytes at n) ≡ n
length-continuations bytes at n h = length-take-le n (drop at (bits_of bytes)) (simp (length-drop, length-fixed) (omega arith))

-- what is left of the rests after value i
pub left : (ms : List ℕ) (i kept : ℕ) → i < length ms → kept ≡ sum (take (suc i) ms) → (kept - get_or ms i 0 ≡ sum (take i ms)) × (get_or ms i 0 ≤ kept)
left ms i kept h e = let one = sum-take-suc ms i h in (omega arith, omega arith)

pub small-next : (b : ℕ) (vs : List ℕ) (kept less i x : ℕ) → less ≤ kept → less ≤ i → Small b vs kept → Small b (set vs i x) less
small-next b vs kept less i x h k small q l = rw (get_or-set_other vs i q x 0 (λ e. absurd (omega arith))) (small q (omega arith))

pub merging-next : (b : ℕ) (ms bs rests vs : List ℕ) (i kept x : ℕ) → Within 1 ms → i < length ms → length ms ≤ length vs
    → x ≡ get_or vs (kept - get_or ms i 0) 0 * get_or ms i 0 * 2 ^ b + number (take b (drop (i * b) bs))
    → Merging b ms bs rests vs (suc i) kept → Merging b ms bs rests (set vs i x) i (kept - get_or ms i 0)
merging-next b ms bs rests vs i kept x w h l xe was =
    let less = sum-le ms i w in
    let s = left ms i kept h was.ones in
    record {
      ones = s.0;
      unused = λ q k. get_or-set_other vs i q x 0 (λ e. absurd (omega arith)) ∙ was.unused q (omega arith);
      done = λ q k n. there q k n (eqb q i) refl;
    }
  where
    above : (m : ℕ) → m < 2 → m ≤ kept → m * (2 ^ b * get_or vs (kept - m) 0) ≡ m * (2 ^ b * get_or rests (kept - m) 0)
    above zero k p = omega arith
    above (suc zero) k p = rw (was.unused (kept - 1) (omega arith))
    above (suc (suc m)) k p = absurd (omega arith)

    there : (q : ℕ) → i ≤ q → q < length ms → (t : Bool) → eqb q i ≡ t → get_or (set vs i x) q 0 ≡ get_or (merged b ms bs rests) q 0
    there q k n true e =
        let s = left ms i kept h was.ones in
        let c = number (take b (drop (i * b) bs)) in
        let m = get_or ms i 0 in
        let turn : get_or vs (kept - m) 0 * m * 2 ^ b + c ≡ c + m * (2 ^ b * get_or vs (kept - m) 0) = omega arith in
        rw (eqb-true q i e, get_or-set_same vs i x 0 (omega arith), merged-at b ms bs rests i h, ← s.0)
        (xe ∙ turn ∙ ap (λ (y : ℕ). c + y) (above m (w i) s.1))
    there q k n false e = get_or-set_other vs i q x 0 (eqb-false q i e) ∙ was.done q (omega (arith, eqb-false q i e)) n

pub merging-last : (b : ℕ) (ms bs rests vs : List ℕ) (kept : ℕ) → length ms ≡ length vs → Merging b ms bs rests vs 0 kept → vs ≡ merged b ms bs rests
merging-last b ms bs rests vs kept e was =
    ext_get_or 0 vs (merged b ms bs rests) (sym e ∙ sym (length_merged b ms bs rests)) (λ q h. was.done q (omega arith) (omega arith))

-- ---- values that leave room

pub from-one-at : (limit : ℕ) (vs : List ℕ) → from_one limit vs ≡ true → (q : ℕ) → q < length vs → (1 ≤ get_or vs q 0) × (get_or vs q 0 < limit)
from-one-at limit vs h q k =
    let t = and_at (from_one limit) (λ v. ltb 0 v && ltb v limit) refl (λ _ _. refl) vs q 0 k h in
    let b = (and-eq-true_iff (ltb 0 (get_or vs q 0)) (ltb (get_or vs q 0) limit)).0 t in
    (ltb-true 0 (get_or vs q 0) b.0, ltb-true (get_or vs q 0) limit b.1)
