-- In an ordered list the times smaller than t are the first ones.
use Rattle.std.proofs.Common.{◌≡◌, refl, sym, ◌∙◌, Bool, true, false, cond, List, [], ◌∷◌, ℕ, zero, suc, ◌≤◌, ◌<◌, le_refl, arith, T, ltb, leb, length}
use Rattle.std.proofs.Common.{get_or, lt-ltb, le-ltb, leb-true, ltb-true}
use native.Mathlib.Decide.{dec_lt}
use lib.Dec.{leb-suc-suc}
use Rattle.tree.specs.Lists.{ordered, smaller}

smaller-more : (t x : ℕ) (xs : List ℕ) → x < t → smaller t (x ∷ xs) ≡ suc (smaller t xs)
unfolding smaller
smaller-more t x xs h = rw (lt-ltb x t h) (omega arith)

smaller-same : (t x : ℕ) (xs : List ℕ) → t ≤ x → smaller t (x ∷ xs) ≡ smaller t xs
unfolding smaller
smaller-same t x xs h = rw (le-ltb x t h) (omega arith)

pub smaller-le : (t : ℕ) (xs : List ℕ) → smaller t xs ≤ length xs
unfolding smaller
smaller-le t [] = le_refl 0
smaller-le t (x ∷ xs) = elim (dec_lt x t) [
  | yes k ↦ omega (arith, smaller-more t x xs k, smaller-le t xs)
  | no k ↦ omega (arith, smaller-same t x xs (omega arith), smaller-le t xs)
]

pub smaller-mono : (s t : ℕ) (xs : List ℕ) → s ≤ t → smaller s xs ≤ smaller t xs
unfolding smaller
smaller-mono s t [] h = le_refl 0
smaller-mono s t (x ∷ xs) h = elim (dec_lt x s) [
  | yes k ↦ omega (arith, smaller-more s x xs k, smaller-more t x xs (omega arith), smaller-mono s t xs h)
  | no k ↦ omega (arith, smaller-same s x xs (omega arith), smaller-mono s t xs h)
]

pub ordered-head : (x y : ℕ) (ys : List ℕ) → T (ordered (x ∷ y ∷ ys)) → (x ≤ y) × T (ordered (y ∷ ys))
unfolding ordered
ordered-head x y ys o = go (leb x y) refl o
  where
    go : (b : Bool) → leb x y ≡ b → T (cond b (ordered (y ∷ ys)) false) → (x ≤ y) × T (ordered (y ∷ ys))
    go true e o = (leb-true x y e, o)
    go false e o = absurd o

ordered-tail : (x : ℕ) (xs : List ℕ) → T (ordered (x ∷ xs)) → T (ordered xs)
unfolding ordered
ordered-tail x [] o = tt
ordered-tail x (y ∷ ys) o = (ordered-head x y ys o).1

-- no time is smaller after one at or above t
smaller-none : (t x : ℕ) (xs : List ℕ) → T (ordered (x ∷ xs)) → t ≤ x → smaller t xs ≡ 0
unfolding smaller
smaller-none t x [] o h = refl
smaller-none t x (y ∷ ys) o h =
    let p = ordered-head x y ys o in
    smaller-same t y ys (omega arith) ∙ smaller-none t y ys p.1 (omega arith)

pub smaller-first : (t : ℕ) (xs : List ℕ) → T (ordered xs) → (i : ℕ) → i < length xs → ltb (get_or xs i 0) t ≡ ltb i (smaller t xs)
smaller-first t [] o i h = absurd (omega arith)
smaller-first t (x ∷ xs) o zero h = elim (dec_lt x t) [
  | yes k ↦ rw (smaller-more t x xs k) (lt-ltb x t k ∙ sym (lt-ltb 0 (suc (smaller t xs)) (omega arith)))
  | no k ↦ rw (smaller-same t x xs (omega arith), smaller-none t x xs o (omega arith)) (le-ltb x t (omega arith))
]
smaller-first t (x ∷ xs) o (suc i) h =
    let r = smaller-first t xs (ordered-tail x xs o) i (omega arith) in
    elim (dec_lt x t) [
      | yes k ↦ rw (smaller-more t x xs k) (r ∙ sym (leb-suc-suc (suc i) (smaller t xs)))
      | no k ↦
          let z = smaller-none t x xs o (omega arith) in
          rw (smaller-same t x xs (omega arith)) (r ∙ rw z (le-ltb i 0 (omega arith) ∙ sym (le-ltb (suc i) 0 (omega arith))))
    ]

-- no time is above a later one
pub get_or-ordered : (xs : List ℕ) → T (ordered xs) → (i j : ℕ) → i ≤ j → j < length xs → get_or xs i 0 ≤ get_or xs j 0
get_or-ordered xs o i j h k =
    let t = suc (get_or xs j 0) in
    let a : j < smaller t xs = ltb-true j (smaller t xs) (sym (smaller-first t xs o j k) ∙ lt-ltb (get_or xs j 0) t (le_refl t)) in
    let b : get_or xs i 0 < t = ltb-true (get_or xs i 0) t (smaller-first t xs o i (omega arith) ∙ lt-ltb i (smaller t xs) (omega arith)) in
    omega arith
