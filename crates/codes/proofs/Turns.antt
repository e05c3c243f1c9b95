-- The turns of a chunked fetch, by the place in the part.
use Rattle.std.proofs.Common.{◌≡◌, ℕ, zero, suc, ◌+◌, ◌-◌, ◌*◌, ◌^◌, ◌<◌, ◌≤◌, min, Bool, true, false, cond, eqb, List, [], ◌∷◌, length, take, drop, sym, refl, ap, ◌∙◌, mul_comm, mul-le-mul, mul-zero, arith, length-drop, get_or-drop, drop-drop, pow_mono, pow-add, le-ltb, lt-ltb, eq-eqb, ne_eqb}
use native.Mathlib.Nat.{min-eq_left, min-eq_right}
use native.Mathlib.Decide.{dec_le}
use Rattle.codes.specs.Bits.{number, sum}
use Rattle.codes.specs.Fetch.{Fetched, value, outside, extended, within32, chunked_at}
use Rattle.codes.proofs.Bits.{number-one, sum-take-add}
use Rattle.codes.proofs.Fetches.{fetch-step}

-- ---- what is above a value

over : (v : ℕ) → 2 ^ 32 ≤ v → within32 (value v) ≡ outside
over v h = rw (le-ltb v (2 ^ 32) h)

over-extended : (s a : ℕ) (d : Fetched) → 2 ^ 32 ≤ a → within32 (extended s a d) ≡ outside
over-extended s a (value v) h = over (a + 2 ^ s * v) (omega arith)
over-extended s a outside h = refl

pub extended-zero : (d : Fetched) → extended 0 0 d ≡ d
extended-zero (value v) = ap value (omega arith)
extended-zero outside = refl

-- past 32 bits only whether there is anything counts
cap : (s a : ℕ) (d : Fetched) → within32 (extended s a d) ≡ within32 (extended (min s 32) a d)
cap s a outside = refl
cap s a (value zero) = rw (mul-zero (2 ^ s), mul-zero (2 ^ min s 32))
cap s a (value (suc v)) = elim (dec_le s 32) [ yes h ↦ rw (min-eq_left h) | no h ↦ far (omega arith) ]
  where
    far : 32 ≤ s → within32 (value (a + 2 ^ s * suc v)) ≡ within32 (value (a + 2 ^ min s 32 * suc v))
    far h =
        let p : 2 ^ 32 * 1 ≤ 2 ^ s * suc v = mul-le-mul {m₁ = 1} {m₂ = suc v} (pow_mono h) (omega arith) in
        over (a + 2 ^ s * suc v) (omega arith) ∙ sym (rw (min-eq_right h) (over (a + 2 ^ 32 * suc v) (omega arith)))

next : (s b a c : ℕ) (d : Fetched) → within32 (extended s a (extended b c d)) ≡ within32 (extended (min (s + b) 32) (a + c * 2 ^ s) d)
next s b a c outside = refl
next s b a c (value v) =
    let e : a + 2 ^ s * (c + 2 ^ b * v) ≡ a + c * 2 ^ s + 2 ^ (s + b) * v = rw pow-add (omega arith) in
    ap (λ (x : ℕ). within32 (value x)) e ∙ cap (s + b) (a + c * 2 ^ s) (value v)

-- ---- the turns

first_one : (bs : List ℕ) (m : ℕ) → 1 ≤ m → (number (take 1 bs) ≡ 0 → ⊥) → 1 ≤ sum (take m bs)
unfolding number sum
first_one [] m h z = absurd (z refl)
first_one (x ∷ bs) zero h z = absurd (omega arith)
first_one (x ∷ bs) (suc m) h z = let y : x * 1 + 0 ≡ 0 → ⊥ = z in omega arith

-- what a fetch answers that stands at the layer from bit `at` on, at value k of its n, and has found a, below bit s
abbrev pub answer : List ℕ → ℕ → ℕ → ℕ → ℕ → ℕ → ℕ → Fetched
answer bs b at n k s a = within32 (extended s a (chunked_at b n k (drop at bs)))

-- the chunk there
abbrev chunk_at : List ℕ → ℕ → ℕ → ℕ → ℕ → ℕ
chunk_at bs b at n k = number (take b (drop (at + n + k * b) bs))

-- the fetch in the next layer
abbrev deeper : List ℕ → ℕ → ℕ → ℕ → ℕ → Fetched
deeper bs b at n k = chunked_at b (sum (take n (drop at bs))) (sum (take k (drop at bs))) (drop (at + n + n * b) bs)

-- of bits up to `end`
module _ (bs : List ℕ) {end : ℕ} (len : length bs ≡ end) (b at n k s a : ℕ) (hk : k < n) where
  pub answer-short : end - at < n + n * b → answer bs b at n k s a ≡ outside
  answer-short h = rw (fetch-step b n k (drop at bs) hk, lt-ltb (length (drop at bs)) (n + n * b) (simp length-drop (omega arith)))

  module _ (whole : n + n * b ≤ end - at) where
    layer-there : chunked_at b n k (drop at bs)
        ≡ cond (eqb (number (take 1 (drop (at + k) bs))) 0) (value (chunk_at bs b at n k)) (extended b (chunk_at bs b at n k) (deeper bs b at n k))
    layer-there =
        let e : at + (n + k * b) ≡ at + n + k * b = omega arith in
        let e' : at + (n + n * b) ≡ at + n + n * b = omega arith in
        fetch-step b n k (drop at bs) hk
        ∙ rw (
          le-ltb (length (drop at bs)) (n + n * b) (simp length-drop (omega arith)),
          get_or-drop at bs k 0,
          drop-drop (n + k * b) at bs,
          e,
          drop-drop (n + n * b) at bs,
          e',
          ← (number-one bs (at + k) (omega arith)),
        )

    pub answer-last : number (take 1 (drop (at + k) bs)) ≡ 0 → a + chunk_at bs b at n k * 2 ^ s < 2 ^ 32
        → answer bs b at n k s a ≡ value (a + chunk_at bs b at n k * 2 ^ s)
    answer-last z h =
        rw (
          layer-there,
          eq-eqb (number (take 1 (drop (at + k) bs))) 0 z,
          mul_comm (2 ^ s) (chunk_at bs b at n k),
          lt-ltb (a + chunk_at bs b at n k * 2 ^ s) (2 ^ 32) h,
        )

    pub answer-over : 2 ^ 32 ≤ a + chunk_at bs b at n k * 2 ^ s → answer bs b at n k s a ≡ outside
    answer-over h = rw layer-there (go (eqb (number (take 1 (drop (at + k) bs))) 0))
      where
        c : ℕ
        c = chunk_at bs b at n k

        go : (t : Bool) → within32 (extended s a (cond t (value c) (extended b c (deeper bs b at n k)))) ≡ outside
        go true = rw (mul_comm (2 ^ s) c) (over (a + c * 2 ^ s) h)
        go false = next s b a c (deeper bs b at n k) ∙ over-extended (min (s + b) 32) (a + c * 2 ^ s) (deeper bs b at n k) h

    -- the next layer has as many values as ones, of which value k is one
    pub answer-more : (number (take 1 (drop (at + k) bs)) ≡ 0 → ⊥)
        → let before = sum (take k (drop at bs)) in
        let all = sum (take n (drop at bs)) in
        (before < all) × (answer bs b at n k s a ≡ answer bs b (at + n + n * b) all before (min (s + b) 32) (a + chunk_at bs b at n k * 2 ^ s))
    answer-more z =
        let e : k + (n - k) ≡ n = omega arith in
        let all = rw (e, drop-drop k at bs) at (sum-take-add k (n - k) (drop at bs)) in
        let one = first_one (drop (at + k) bs) (n - k) (omega arith) z in
        (omega arith, rw (layer-there, ne_eqb (number (take 1 (drop (at + k) bs))) 0 z) (next s b a (chunk_at bs b at n k) (deeper bs b at n k)))
