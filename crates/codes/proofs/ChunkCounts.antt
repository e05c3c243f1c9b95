-- The size of a chunked code, layer by layer and by the chunks of its values.
use Rattle.std.proofs.Common.{◌≡◌, ℕ, zero, suc, ◌+◌, ◌-◌, ◌*◌, ◌/◌, ◌^◌, ◌<◌, ◌≤◌, Bool, true, false, cond, eqb, List, [], ◌∷◌, map, length, refl, div-lt_iff_lt-mul, le-div_iff_mul-le, arith, length-append, eqb-true}
use Rattle.std.proofs.lemmas.Bool.{eqb-false}
use Rattle.std.proofs.lemmas.List.{length-map}
use native.Mathlib.Nat.{add-div_right}
use Rattle.codes.specs.Bits.{sum}
use Rattle.codes.specs.Codes.{rest, chunked, Within}
use Rattle.codes.specs.Choice.{width, chunks}
use Rattle.codes.proofs.Bits.{length-fixed}
use Rattle.codes.proofs.Layers.{chunked-step, layers-nil, rest-none, within-rest, within_more}
use Rattle.codes.proofs.Tallies.{rest-rest}
use Rattle.codes.proofs.Widths.{width-ends, width-goes, width-shr}

-- ---- layer by layer

pub length-layer : (b : ℕ) (vs : List ℕ) → 1 ≤ b → Within 32 vs → length (chunked b vs) ≡ length vs * (b + 1) + length (chunked b (rest b vs))
length-layer b vs hb h = rw (chunked-step b vs hb h) (simp (length-append, length-map, length-fixed) (omega arith))

-- the layer from bit s on
pub length-next : (b s : ℕ) (vs : List ℕ) → 1 ≤ b → 1 ≤ s → Within 32 vs
    → length (chunked b (rest s vs)) ≡ length (rest s vs) * (b + 1) + length (chunked b (rest (s + b) vs))
length-next b s vs hb hs h = rw (← (rest-rest s b vs)) (length-layer b (rest s vs) hb (within_more 31 32 (rest s vs) (omega arith) (within-rest s 31 vs hs h)))

-- ---- by the chunks of the values

-- a value has one chunk, and those of what it has above

chunks-last : (b v : ℕ) → 1 ≤ b → v / 2 ^ b ≡ 0 → chunks b v ≡ 1
chunks-last b v hb z =
    let w : width v ≤ b = width-ends 32 b v z in
    let l : (width v + (b - 1)) / b < 2 = (div-lt_iff_lt-mul {k = b} {x = width v + (b - 1)} {y = 2} hb).1 (omega arith) in
    omega arith

chunks-more : (b v : ℕ) → 1 ≤ b → v < 2 ^ 32 → (v / 2 ^ b ≡ 0 → ⊥) → chunks b v ≡ 1 + chunks b (v / 2 ^ b)
chunks-more b v hb h n =
    let w : b < width v = width-goes 32 b v h n in
    let x = width v - b + (b - 1) in
    let e : width v + (b - 1) ≡ x + b = omega arith in
    let p : 1 ≤ x / b = (le-div_iff_mul-le {k = b} {x = 1} {y = x} hb).1 (omega arith) in
    rw (width-shr 32 b v h, e, add-div_right x hb) (omega arith)

chunks_rest : (b : ℕ) (vs : List ℕ) → 1 ≤ b → Within 32 vs → sum (map (chunks b) vs) ≡ length vs + sum (map (chunks b) (rest b vs))
unfolding sum rest
chunks_rest b [] hb h = refl
chunks_rest b (v ∷ vs) hb h = go (eqb (v / 2 ^ b) 0) refl (chunks_rest b vs hb (λ j. h (suc j)))
  where
    go : (t : Bool) → eqb (v / 2 ^ b) 0 ≡ t → sum (map (chunks b) vs) ≡ length vs + sum (map (chunks b) (rest b vs))
        → chunks b v + sum (map (chunks b) vs) ≡ suc (length vs) + sum (map (chunks b) (cond t (rest b vs) (v / 2 ^ b ∷ rest b vs)))
    go true p ih = omega (arith, chunks-last b v hb (eqb-true (v / 2 ^ b) 0 p))
    go false p ih = omega (arith, chunks-more b v hb (h 0) (eqb-false (v / 2 ^ b) 0 p))

within-length : (f b : ℕ) (vs : List ℕ) → 1 ≤ b → f ≤ 32 → Within f vs → length (chunked b vs) ≡ (b + 1) * sum (map (chunks b) vs)
unfolding sum
within-length zero b vs hb l h =
    let w = within_more 0 32 vs (omega arith) h in
    rw (length-layer b vs hb w, chunks_rest b vs hb w, rest-none b vs (within_more 0 b vs (omega arith) h), layers-nil 32 b) (omega arith)
within-length (suc f) b vs hb l h =
    let w = within_more (suc f) 32 vs l h in
    rw (length-layer b vs hb w, chunks_rest b vs hb w, within-length f b (rest b vs) hb (omega arith) (within-rest b f vs hb h)) (omega arith)

pub chunked-length : (b : ℕ) (vs : List ℕ) → 1 ≤ b → Within 32 vs → length (chunked b vs) ≡ (b + 1) * sum (map (chunks b) vs)
chunked-length b vs hb h = within-length 32 b vs hb (omega arith) h
