-- The chosen code holds the values and has the fewest bits; on a tie it has the least number, so a fixed code goes first, then the smaller b.
use Rattle.std.proofs.Common.{◌≡◌, ℕ, zero, suc, ◌+◌, ◌-◌, ◌*◌, ◌<◌, ◌≤◌, Bool, true, false, cond, ltb, ◌⊎◌, List, length, refl, inl, inr, eq-or-lt_of_le, mul-le-mul_left, arith, ltb-false, ltb-true}
use Rattle.codes.specs.declared.choosing.Choice.{Choice}
use Rattle.codes.specs.declared.kinds.Kind.{Kind}
use Rattle.codes.specs.declared.kinds.Kind.TheVariants.{Fixed, Chunked, Refused}
use Rattle.codes.specs.Codes.{kind_of, kind_bits, chunked, Within, Holds}
use Rattle.codes.specs.Choice.{widest, size, offer, better, best_chunked, chosen}
use Rattle.codes.specs.Promises.{Known}
use Rattle.codes.proofs.Bits.{length-fixed}
use Rattle.codes.proofs.CodeByte.{kind-fixed, kind-chunked, kind-known}
use Rattle.codes.proofs.Widths.{widest-holds, widest-least, widest-le}

-- ---- sizes

kind-of-chunked : (b : ℕ) → 1 ≤ b → b ≤ 8 → kind_of (64 + b) ≡ Chunked b
kind-of-chunked b l h = let e : 64 + b - 64 ≡ b = omega arith in rw e at (kind-chunked (64 + b) (omega arith) (omega arith))

pub size-fixed : (w : ℕ) (vs : List ℕ) → w ≤ 32 → size w vs ≡ length vs * w
unfolding kind_bits
size-fixed w vs h = rw (kind-fixed w (omega arith)) (length-fixed w vs)

pub size-chunked : (b : ℕ) (vs : List ℕ) → 1 ≤ b → b ≤ 8 → size (64 + b) vs ≡ length (chunked b vs)
unfolding kind_bits
size-chunked b vs l h = rw (kind-of-chunked b l h)

-- ---- the choice, step by step

-- of no chunked code but the first
pub best-first : (vs : List ℕ) → best_chunked 0 vs ≡ offer 65 vs
unfolding best_chunked
best-first vs = refl

-- and of the one for b, too
pub best-next : (b : ℕ) (vs : List ℕ) → 2 ≤ b → best_chunked (b + 1 - 2) vs ≡ better (best_chunked (b - 2) vs) (offer (64 + b) vs)
unfolding best_chunked
best-next b vs l =
    let e : b + 1 - 2 ≡ suc (b - 2) = omega arith in
    let n : 66 + (b - 2) ≡ 64 + b = omega arith in
    rw (e, n)

-- ---- what holds of the chosen code

-- what holds of two codes holds of the better one
better-ind : (P : Choice → Type 0) (a b : Choice) → P a → P b → P (better a b)
better-ind P a b p q = go (ltb b.size a.size)
  where
    go : (t : Bool) → P (cond t b a)
    go true = q
    go false = p

-- what holds of each code that may be chosen holds of the chosen one
module _ (P : Choice → Type 0) (vs : List ℕ) (chunk : (b : ℕ) → 1 ≤ b → b ≤ 8 → P (offer (64 + b) vs)) where
  best-ind : (k : ℕ) → k ≤ 7 → P (best_chunked k vs)
  unfolding best_chunked
  best-ind zero h = chunk 1 (omega arith) (omega arith)
  best-ind (suc k) h =
      let n : 64 + (k + 2) ≡ 66 + k = omega arith in
      better-ind P (best_chunked k vs) (offer (66 + k) vs) (best-ind k (omega arith)) (rw n at (chunk (k + 2) (omega arith) (omega arith)))

  chosen-ind : P (offer (widest vs) vs) → P (chosen vs)
  unfolding chosen
  chosen-ind p = better-ind P (offer (widest vs) vs) (best_chunked 7 vs) p (best-ind 7 (omega arith))

pub chosen-holds : (vs : List ℕ) → Within 32 vs → Holds (kind_of (chosen vs).code) vs
chosen-holds vs h =
    chosen-ind (λ c. Holds (kind_of c.code) vs) vs (λ b l k. rw (kind-of-chunked b l k) h)
    (rw (kind-fixed (widest vs) (omega (arith, widest-le vs))) (widest-holds vs h))

pub chosen-size : (vs : List ℕ) → (chosen vs).size ≡ size (chosen vs).code vs
chosen-size vs = chosen-ind (λ c. c.size ≡ size c.code vs) vs (λ b l k. refl) refl

-- ---- and that no other is better

-- r is no larger than code c of size s, and on a tie its number is no larger
abbrev First : Choice → ℕ → ℕ → Type 0
First r c s = (r.size ≤ s) × (s ≤ r.size → r.code ≤ c)

better-first : (a b : Choice) (c s : ℕ) → First a c s → First (better a b) c s
better-first a b c s h = go (ltb b.size a.size) refl
  where
    go : (t : Bool) → ltb b.size a.size ≡ t → First (cond t b a) c s
    go true e = let l = ltb-true b.size a.size e in omega arith
    go false e = h

better-second : (a b : Choice) (c s : ℕ) → a.code ≤ c → First b c s → First (better a b) c s
better-second a b c s l h = go (ltb b.size a.size) refl
  where
    go : (t : Bool) → ltb b.size a.size ≡ t → First (cond t b a) c s
    go true e = h
    go false e = let m = ltb-false b.size a.size e in omega arith

best-code : (vs : List ℕ) (k : ℕ) → (best_chunked k vs).code ≤ 65 + k
unfolding best_chunked
best-code vs zero = omega arith
best-code vs (suc k) =
    better-ind (λ c. c.code ≤ 65 + suc k) (best_chunked k vs) (offer (66 + k) vs) (omega (arith, best-code vs k)) (omega arith)

-- among the chunked codes
best-chunked : (vs : List ℕ) (k b : ℕ) → 1 ≤ b → b ≤ suc k → First (best_chunked k vs) (64 + b) (size (64 + b) vs)
unfolding best_chunked
best-chunked vs zero b l h = let e : b ≡ 1 = omega arith in rw e (omega arith)
best-chunked vs (suc k) b l h = go (best-chunked vs k b l) (eq-or-lt_of_le h)
  where
    go : (b ≤ suc k → First (best_chunked k vs) (64 + b) (size (64 + b) vs)) → (b ≡ suc (suc k)) ⊎ (b < suc (suc k))
        → First (better (best_chunked k vs) (offer (66 + k) vs)) (64 + b) (size (64 + b) vs)
    go ih (inl e) =
        let n : 64 + b ≡ 66 + k = omega arith in
        rw n (better-second (best_chunked k vs) (offer (66 + k) vs) (66 + k) (size (66 + k) vs) (omega (arith, best-code vs k)) (omega arith))
    go ih (inr m) = better-first (best_chunked k vs) (offer (66 + k) vs) (64 + b) (size (64 + b) vs) (ih (omega arith))

pub chosen-first : (vs : List ℕ) (code : ℕ) → Holds (kind_of code) vs → ((chosen vs).size ≤ size code vs) × (size code vs ≤ (chosen vs).size → (chosen vs).code ≤ code)
unfolding chosen
chosen-first vs code = go (kind_of code) (kind-known code)
  where
    fixed : Choice
    fixed = offer (widest vs) vs

    go : (k : Kind) → Known k code → Holds k vs → First (better fixed (best_chunked 7 vs)) code (size code vs)
    go (Fixed w) n h =
        let e = n.1 in
        let l = widest-least vs w h in
        rw (← e) (better-first fixed (best_chunked 7 vs) w (size w vs)
        (rw (size-fixed w vs n.0, size-fixed (widest vs) vs (widest-le vs)) (mul-le-mul_left (length vs) l), λ _. l))
    go (Chunked b) n h =
        let e = n.2 in
        rw (← e) (better-second fixed (best_chunked 7 vs) (64 + b) (size (64 + b) vs) (omega (arith, widest-le vs)) (best-chunked vs 7 b n.0 n.1))
    go Refused n h = absurd h

-- a code of width 32 holds the values
pub chosen-at-most : (vs : List ℕ) → Within 32 vs → (chosen vs).size ≤ length vs * 32
chosen-at-most vs h = rw (size-fixed 32 vs (omega arith)) at (chosen-first vs 32 (rw (kind-fixed 32 (omega arith)) h)).0
