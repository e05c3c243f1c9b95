-- How many values have how many zero bits above their highest one bit, and how many have more bits than a width.
use Rattle.std.proofs.Common.{◌≡◌, ℕ, zero, suc, ◌+◌, ◌-◌, ◌*◌, ◌/◌, ◌^◌, ◌<◌, ◌≤◌, Bool, true, false, cond, eqb, ltb, List, [], ◌∷◌, ◌++◌, length, get_or, take, drop, set, sym, refl, ap, ◌∙◌, le_trans, add-one, arith, length-drop, take-append-drop, length-take, get_or-set_other, take-suc, get_or-set_same, drop-drop, pow_pos, shr-shr, ltb-false, ltb-true, eq-eqb, ne_eqb, eqb-true, not, Some, None, unwrap_or, zero-mul, take-add, length-take-le}
use Rattle.std.proofs.lemmas.Bool.{eqb-false}
use native.Mathlib.Nat.{zero-div}
use lib.ListN.{get_or-eq_default}
use Rattle.std.specs.List.{position, position_or_len}
use Rattle.std.proofs.lemmas.List.Sums.{prefix_len_is}
use Rattle.std.specs.Simd.{first_chunks}
use Rattle.codes.specs.declared.measuring.Counts.{Counts}
use Rattle.codes.specs.Codes.{rest, Within}
use Rattle.codes.specs.Choice.{width, widest}
use Rattle.codes.specs.Measure.{tally, counted, Tallied, Measured}
use Rattle.codes.proofs.Layers.{rest-none}
use Rattle.codes.proofs.Widths.{width-zeros, shr-none, width-ends, width-goes, widest-holds, widest-least, widest-le}

-- ---- those with more than t bits

pub none_within : (t : ℕ) (vs : List ℕ) → length (rest t vs) ≡ 0 → Within t vs
unfolding rest
none_within t [] e j = pow_pos t
none_within t (v ∷ vs) e j = go (eqb (v / 2 ^ t) 0) refl (none_within t vs) e j
  where
    go : (s : Bool) → eqb (v / 2 ^ t) 0 ≡ s → (length (rest t vs) ≡ 0 → Within t vs)
        → length (cond s (rest t vs) (v / 2 ^ t ∷ rest t vs)) ≡ 0 → (i : ℕ) → get_or (v ∷ vs) i 0 < 2 ^ t
    go true p ih e zero = shr-none t v (eqb-true (v / 2 ^ t) 0 p)
    go true p ih e (suc j) = ih e j
    go false p ih e j = absurd (omega arith)

length_rest : (t : ℕ) (vs : List ℕ) → length (rest t vs) ≤ length vs
unfolding rest
length_rest t [] = omega arith
length_rest t (v ∷ vs) = go (eqb (v / 2 ^ t) 0) (length_rest t vs)
  where
    go : (s : Bool) → length (rest t vs) ≤ length vs → length (cond s (rest t vs) (v / 2 ^ t ∷ rest t vs)) ≤ suc (length vs)
    go true h = omega arith
    go false h = omega arith

pub rest-rest : (s b : ℕ) (vs : List ℕ) → rest b (rest s vs) ≡ rest (s + b) vs
unfolding rest
rest-rest s b [] = refl
rest-rest s b (v ∷ vs) = go (eqb (v / 2 ^ s) 0) refl (rest-rest s b vs)
  where
    go : (t : Bool) → eqb (v / 2 ^ s) 0 ≡ t → rest b (rest s vs) ≡ rest (s + b) vs
        → rest b (cond t (rest s vs) (v / 2 ^ s ∷ rest s vs)) ≡ cond (eqb (v / 2 ^ (s + b)) 0) (rest (s + b) vs) (v / 2 ^ (s + b) ∷ rest (s + b) vs)
    go true p ih =
        let z : v / 2 ^ (s + b) ≡ 0 = rw (← (shr-shr v s b), eqb-true (v / 2 ^ s) 0 p) (zero-div (2 ^ b)) in
        rw (eq-eqb (v / 2 ^ (s + b)) 0 z) ih
    go false p ih = rw (shr-shr v s b, ih)

-- ---- those with z zero bits above their highest one bit

-- those with more than t bits have more than t + 1, or 31 - t zero bits
rest-tally : (t : ℕ) (vs : List ℕ) → t < 32 → Within 32 vs → length (rest t vs) ≡ length (rest (t + 1) vs) + tally (31 - t) vs
unfolding rest tally
rest-tally t [] m h = refl
rest-tally t (v ∷ vs) m h = go (eqb (v / 2 ^ t) 0) (eqb (v / 2 ^ (t + 1)) 0) (eqb (32 - width v) (31 - t)) refl refl refl (rest-tally t vs m (λ j. h (suc j)))
  where
    most : width v ≤ 32
    most = omega (arith, width-zeros 32 v)

    go : (p q r : Bool) → eqb (v / 2 ^ t) 0 ≡ p → eqb (v / 2 ^ (t + 1)) 0 ≡ q → eqb (32 - width v) (31 - t) ≡ r → length (rest t vs) ≡ length (rest (t + 1) vs) + tally (31 - t) vs
        → length (cond p (rest t vs) (v / 2 ^ t ∷ rest t vs)) ≡ length (cond q (rest (t + 1) vs) (v / 2 ^ (t + 1) ∷ rest (t + 1) vs)) + (cond r 1 0 + tally (31 - t) vs)
    go true q true a b c ih = omega (arith, most, width-ends 32 t v (eqb-true (v / 2 ^ t) 0 a), eqb-true (32 - width v) (31 - t) c)
    go true true false a b c ih = omega arith
    go true false false a b c ih = omega (arith, width-ends 32 t v (eqb-true (v / 2 ^ t) 0 a), width-goes 32 (t + 1) v (h 0) (eqb-false (v / 2 ^ (t + 1)) 0 b))
    go false true true a b c ih = omega arith
    go false true false a b c ih =
        omega (arith, width-goes 32 t v (h 0) (eqb-false (v / 2 ^ t) 0 a), width-ends 32 (t + 1) v (eqb-true (v / 2 ^ (t + 1)) 0 b), eqb-false (32 - width v) (31 - t) c)
    go false false true a b c ih = omega (arith, most, width-goes 32 (t + 1) v (h 0) (eqb-false (v / 2 ^ (t + 1)) 0 b), eqb-true (32 - width v) (31 - t) c)
    go false false false a b c ih = omega arith

pub tally-le : (z : ℕ) (vs : List ℕ) → tally z vs ≤ length vs
unfolding tally
tally-le z [] = omega arith
tally-le z (v ∷ vs) = go (eqb (32 - width v) z) (tally-le z vs)
  where
    go : (s : Bool) → tally z vs ≤ length vs → cond s 1 0 + tally z vs ≤ suc (length vs)
    go true h = omega arith
    go false h = omega arith

pub tally-few : (z i : ℕ) (vs : List ℕ) → tally z (take i vs) ≤ i
tally-few z i vs = le_trans (tally-le z (take i vs)) (simp length-take (omega arith))

tally-append : (z : ℕ) (xs ys : List ℕ) → tally z (xs ++ ys) ≡ tally z xs + tally z ys
unfolding tally
tally-append z [] ys = omega arith
tally-append z (x ∷ xs) ys = omega (arith, tally-append z xs ys)

-- one value more
pub tally-next : (z : ℕ) (vs : List ℕ) (i : ℕ) → i < length vs → tally z (take (i + 1) vs) ≡ tally z (take i vs) + tally z (get_or vs i 0 ∷ [])
tally-next z vs i h = rw (add-one i, take-suc vs i 0 h) (tally-append z (take i vs) (get_or vs i 0 ∷ []))

-- which is counted where its zeros say
pub counted-more : (counts : List ℕ) (v k z : ℕ) → k < length counts → k ≡ 32 - width v → get_or (set counts k (get_or counts k 0 + 1)) z 0 ≡ get_or counts z 0 + tally z (v ∷ [])
unfolding tally
counted-more counts v k z h e = rw (← e) (go (eqb k z) refl)
  where
    go : (s : Bool) → eqb k z ≡ s → get_or (set counts k (get_or counts k 0 + 1)) z 0 ≡ get_or counts z 0 + (cond s 1 0 + 0)
    go true p = rw (← (eqb-true k z p)) (get_or-set_same counts k (get_or counts k 0 + 1) 0 h)
    go false p = rw (get_or-set_other counts k z (get_or counts k 0 + 1) 0 (λ q. eqb-false k z p (sym q))) (omega arith)

-- four values more
tally-four : (z : ℕ) (four : List ℕ) → length four ≡ 4
    → tally z four ≡ tally z (get_or four 0 0 ∷ []) + tally z (get_or four 1 0 ∷ []) + tally z (get_or four 2 0 ∷ []) + tally z (get_or four 3 0 ∷ [])
unfolding tally
tally-four z [] e = absurd (omega arith)
tally-four z (v ∷ []) e = absurd (omega arith)
tally-four z (v ∷ w ∷ []) e = absurd (omega arith)
tally-four z (v ∷ w ∷ x ∷ []) e = absurd (omega arith)
tally-four z (v ∷ w ∷ x ∷ y ∷ []) e = omega arith
tally-four z (v ∷ w ∷ x ∷ y ∷ u ∷ vs) e = absurd (omega arith)

-- chunk i of k
chunk : (n k i : ℕ) (vs : List ℕ) → i < k → get_or (first_chunks n k vs) i [] ≡ take n (drop (i * n) vs)
chunk n zero i vs h = absurd (omega arith)
chunk n (suc k) zero vs h = rw (zero-mul n)
chunk n (suc k) (suc i) vs h =
    let e : suc i * n ≡ n + i * n = omega arith in
    rw (e, ← (drop-drop (i * n) n vs)) (chunk n k i (drop n vs) (omega arith))

pub tally-chunk : (z : ℕ) (vs four : List ℕ) (k i : ℕ) → i < k → k * 4 ≤ length vs → four ≡ get_or (first_chunks 4 k vs) i []
    → tally z (take ((i + 1) * 4) vs) ≡ tally z (take (i * 4) vs)
    + (tally z (get_or four 0 0 ∷ []) + tally z (get_or four 1 0 ∷ []) + tally z (get_or four 2 0 ∷ []) + tally z (get_or four 3 0 ∷ []))
tally-chunk z vs four k i h l f =
    let e : (i + 1) * 4 ≡ i * 4 + 4 = omega arith in
    let here : four ≡ take 4 (drop (i * 4) vs) = f ∙ chunk 4 k i vs h in
    let n : length four ≡ 4 = rw here (length-take-le 4 (drop (i * 4) vs) (simp length-drop (omega arith))) in
    rw (← (tally-four z four n), e, take-add (i * 4) 4 vs, here) (tally-append z (take (i * 4) vs) (take 4 (drop (i * 4) vs)))

pub tally-apart : (z n : ℕ) (vs : List ℕ) → tally z vs ≡ tally z (take n vs) + tally z (drop n vs)
tally-apart z n vs = ap (tally z) (sym (take-append-drop n vs)) ∙ tally-append z (take n vs) (drop n vs)

-- ---- the counts in an array

-- one entry more, from the one above it
pub measured-more : (over vs : List ℕ) (counts : Counts) (t : ℕ) → t < 32 → length over ≡ 33 → Tallied vs counts
    → ((u : ℕ) → t < u → u ≤ 32 → get_or over u 0 ≡ length (rest u vs))
    → (u : ℕ) → t ≤ u → u ≤ 32 → get_or (set over t (get_or over (t + 1) 0 + counted counts (31 - t))) u 0 ≡ length (rest u vs)
measured-more over vs counts t k n h e u m j = go (eqb u t) refl
  where
    x : ℕ
    x = get_or over (t + 1) 0 + counted counts (31 - t)

    go : (s : Bool) → eqb u t ≡ s → get_or (set over t x) u 0 ≡ length (rest u vs)
    go true p =
        rw (eqb-true u t p, get_or-set_same over t x 0 (omega arith))
        (omega (arith, e (t + 1) (omega arith) (omega arith), h.each (31 - t), rest-tally t vs k h.within))
    go false p =
        let q = eqb-false u t p in
        rw (get_or-set_other over t u x 0 q) (e u (omega arith) j)

-- the least width that no value is above is the first with 0
first-none : (vs over : List ℕ) → length over ≡ 33 → Measured vs over → position_or_len (λ n. eqb n 0) over ≡ widest vs
first-none vs over e h = prefix_len_is (λ n. not (eqb n 0)) over (widest vs) 0 (omega (arith, widest-le vs)) below there
  where
    below : (k : ℕ) → k < widest vs → not (eqb (get_or over k 0) 0) ≡ true
    below k l =
        let some : get_or over k 0 ≡ 0 → ⊥ = λ z. absurd (omega (arith, l, widest-least vs k (none_within k vs (sym (h.each k (omega (arith, l, widest-le vs))) ∙ z)))) in
        rw (ne_eqb (get_or over k 0) 0 some)

    there : widest vs < length over → not (eqb (get_or over (widest vs) 0) 0) ≡ false
    there l = rw (eq-eqb (get_or over (widest vs) 0) 0 (h.each (widest vs) (widest-le vs) ∙ ap length (rest-none (widest vs) vs (widest-holds vs h.within))))

pub first-width : (over : List ℕ) → length over ≡ 33
    → let w = unwrap_or (position (λ n. eqb n 0) over) 32 in (w ≤ 32) × ((vs : List ℕ) → Measured vs over → w ≡ widest vs)
first-width over e = go (ltb w (length over)) refl
  where
    w : ℕ
    w = position_or_len (λ n. eqb n 0) over

    go : (s : Bool) → ltb w (length over) ≡ s → (unwrap_or (cond s (Some w) None) 32 ≤ 32) × ((vs : List ℕ) → Measured vs over → unwrap_or (cond s (Some w) None) 32 ≡ widest vs)
    go true p = (omega (arith, ltb-true w (length over) p), λ vs h. first-none vs over e h)
    go false p = (omega arith, λ vs h. absurd (omega (arith, ltb-false w (length over) p, first-none vs over e h, widest-le vs)))

pub measured-le : (vs over : List ℕ) → length over ≡ 33 → Measured vs over → (t : ℕ) → get_or over t 0 ≤ length vs
measured-le vs over n h t = go (ltb t 33) refl
  where
    go : (s : Bool) → ltb t 33 ≡ s → get_or over t 0 ≤ length vs
    go true p = let l = ltb-true t 33 p in omega (arith, h.each t (omega arith), length_rest t vs)
    go false p = let l = ltb-false t 33 p in omega (arith, get_or-eq_default over 0 {n = t} (omega arith))
