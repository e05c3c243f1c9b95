-- The first position with a time before the one before it plus r, from one position to the next. For r = 0 it is the first lower one,
-- and a list is ordered where there is none.
use mathlib.Core.Path.{◌≡◌, refl, ◌∙◌}
use mathlib.Core.Bool.{true, false}
use mathlib.Core.List.{List, [], ◌∷◌}
use Prim.Native.Nat.{ℕ, suc, ◌+◌, ◌-◌, ◌≤◌, ◌<◌}
use native.Mathlib.Nat.{add-zero}
use native.Mathlib.Decide.{dec_lt}
use native.Mathlib.Omega.{arith}
use lib.Dec.{leb, leb-suc-suc}
use lib.ListN.{length, drop, get_or}
use lib.Seq.{drop-cons}
use borrow.Author.Tests.{lt-ltb, le-ltb, le-leb, lt-leb}
use Rattle.tree.specs.Lists.{ordered}
use Rattle.strip.specs.Lists.{first_lower}
use Rattle.strip.specs.Read.{first_near}

module _ (r : ℕ) where
  pub near-here : (x y : ℕ) (ys : List ℕ) → y < x + r → first_near r (x ∷ y ∷ ys) ≡ 1
  unfolding first_near
  near-here x y ys h = rw (lt-ltb y (x + r) h)

  pub near-later : (x y : ℕ) (ys : List ℕ) → x + r ≤ y → first_near r (x ∷ y ∷ ys) ≡ suc (first_near r (y ∷ ys))
  unfolding first_near
  near-later x y ys h = rw (le-ltb y (x + r) h)

  pub near-one : (x : ℕ) → first_near r (x ∷ []) ≡ 1
  unfolding first_near
  near-one x = refl

  -- position 0 has no gap before it
  pub near-some : (x : ℕ) (ys : List ℕ) → 1 ≤ first_near r (x ∷ ys)
  near-some x [] = rw (near-one x) (omega arith)
  near-some x (y ∷ ys) = elim (dec_lt y (x + r)) [
    | yes l ↦ rw (near-here x y ys l) (omega arith)
    | no l ↦ rw (near-later x y ys (omega arith)) (omega arith)
  ]

  pub near-positive : (xs : List ℕ) → 1 ≤ length xs → 1 ≤ first_near r xs
  near-positive [] h = absurd (omega arith)
  near-positive (x ∷ xs) h = near-some x xs

  -- its time is before the one before it plus r
  pub near-at : (xs : List ℕ) → first_near r xs < length xs → get_or xs (first_near r xs) 0 < get_or xs (first_near r xs - 1) 0 + r
  unfolding first_near
  near-at [] h = absurd (omega arith)
  near-at (x ∷ []) h = absurd (omega arith)
  near-at (x ∷ y ∷ ys) h = elim (dec_lt y (x + r)) [
    | yes l ↦ rw (near-here x y ys l) l
    | no l ↦
        let e = near-later x y ys (omega arith) in
        let s = near-some y ys in
        let d : suc (first_near r (y ∷ ys)) - 1 ≡ suc (first_near r (y ∷ ys) - 1) = omega arith in
        rw (e, d) (near-at (y ∷ ys) (omega arith))
  ]

  module _ (xs : List ℕ) (i : ℕ) (h : suc i < length xs) where
    two : drop i xs ≡ get_or xs i 0 ∷ get_or xs (suc i) 0 ∷ drop (suc (suc i)) xs
    two = rw (drop-cons xs i 0 (omega arith), drop-cons xs (suc i) 0 h)

    pub gap-here : get_or xs (suc i) 0 < get_or xs i 0 + r → first_near r (drop i xs) ≡ 1
    gap-here l = rw two (near-here (get_or xs i 0) (get_or xs (suc i) 0) (drop (suc (suc i)) xs) l)

    pub gap-later : get_or xs i 0 + r ≤ get_or xs (suc i) 0 → first_near r (drop i xs) ≡ suc (first_near r (drop (suc i) xs))
    gap-later l = rw (two, drop-cons xs (suc i) 0 h) (near-later (get_or xs i 0) (get_or xs (suc i) 0) (drop (suc (suc i)) xs) l)

  -- from the last position on, and of no list, there is none
  pub gap-end : (xs : List ℕ) (i : ℕ) → i ≡ length xs - 1 → i + first_near r (drop i xs) ≡ length xs
  unfolding first_near
  gap-end [] i e = let z : i ≡ 0 = omega arith in rw z
  gap-end (x ∷ []) i e = let z : i ≡ 0 = omega arith in rw z
  gap-end (x ∷ y ∷ xs) i e = let s : i ≡ suc (length xs) = omega arith in rw s (omega (arith, gap-end (y ∷ xs) (length xs) (omega arith)))

-- ---- order

-- for r = 0 it is the first lower one
pub lower-near : (xs : List ℕ) → first_lower xs ≡ first_near 0 xs
unfolding first_lower first_near
lower-near [] = refl
lower-near (x ∷ []) = refl
lower-near (x ∷ y ∷ ys) = rw (add-zero x, lower-near (y ∷ ys))

ordered-lower : (xs : List ℕ) → ordered xs ≡ leb (length xs) (first_lower xs)
unfolding ordered first_lower
ordered-lower [] = refl
ordered-lower (x ∷ []) = refl
ordered-lower (x ∷ y ∷ ys) = elim (dec_lt y x) [
  | yes l ↦ rw (lt-leb x y l, lt-ltb y x l, lt-leb (suc (suc (length ys))) 1 (omega arith))
  | no l ↦ rw (le-leb x y (omega arith), le-ltb y x (omega arith), leb-suc-suc (suc (length ys)) (first_lower (y ∷ ys))) (ordered-lower (y ∷ ys))
]

pub not-ordered : (xs : List ℕ) → first_lower xs < length xs → ordered xs ≡ false
not-ordered xs h = ordered-lower xs ∙ lt-leb (length xs) (first_lower xs) h

pub is-ordered : (xs : List ℕ) → length xs ≤ first_lower xs → ordered xs ≡ true
is-ordered xs h = ordered-lower xs ∙ le-leb (length xs) (first_lower xs) h
