-- Check and repeat, position by position, by the list that they read and by what ends it.
use mathlib.Core.Path.{◌≡◌, refl, sym, ap, ◌∙◌}
use mathlib.Core.Bool.{Bool, true, false, cond}
use mathlib.Core.List.{List, [], ◌∷◌, ◌++◌}
use Rattle.std.specs.Prelude.{Option, None, Some}
use Prim.Native.Nat.{ℕ, zero, suc, ◌+◌, ◌-◌, ◌≤◌, ◌<◌}
use native.Mathlib.Nat.{zero-add}
use native.Mathlib.Numerals.{add-one}
use native.Mathlib.Decide.{dec_lt}
use native.Mathlib.Omega.{arith}
use lib.Dec.{T, ltb}
use lib.ListN.{length, get_or}
use borrow.Author.Tests.{lt-ltb, le-ltb, lt-leb, le-leb}
use Rattle.tree.specs.declared.nodes.Levels.{Levels}
use Rattle.tree.specs.Lists.{ordered}
use Rattle.tree.specs.declared.walking.Found.{Found}
use Rattle.tree.specs.Outcomes.{Outcome, gives, refuses, after, Test, test, verdict}
use Rattle.tree.specs.Listing.{accesses, times_from, stop_from, times_all, stop_all}
use Rattle.strip.specs.Lists.{gap_from, first_gap}
use Rattle.strip.specs.Calls.{time_at, position_test, positions_tests, list_in, image_test, check_in, near_at, repeat_from}
use Rattle.strip.specs.Read.{first_near, gap_or, falls_test}
use Rattle.strip.proofs.Gaps.{near-here, near-later, near-one, near-some, near-positive, near-at, lower-near, not-ordered, is-ordered}

-- what follows an outcome that follows another
pub after-after : {A B C : Type 0} (o : Outcome A) (f : A → Outcome B) (g : B → Outcome C) → after (after o f) g ≡ after o (λ a. after (f a) g)
after-after (gives a) f g = refl
after-after (refuses r c) f g = refl

-- what repeat answers after its last position, where no gap is too short
abbrev pub ending : Test → Outcome (Option ℕ)
ending stop = after stop (λ _. gives None)

-- ---- repeat

-- position q of a list whose first position is i
abbrev gap_here : ℕ → List ℕ → ℕ → Outcome (Option ℕ)
gap_here i xs q = cond (ltb (get_or xs q 0) (get_or xs (q - 1) 0)) (refuses 11 (i + q)) (gives (Some (i + q)))

abbrev gaps_from : ℕ → ℕ → List ℕ → Outcome (Option ℕ) → Outcome (Option ℕ)
gaps_from r i xs end = cond (ltb (first_near r xs) (length xs)) (gap_here i xs (first_near r xs)) end

module _ (r i x y : ℕ) (ys : List ℕ) (end : Outcome (Option ℕ)) where
  -- the second position is the one
  gaps-here : y < x + r → gaps_from r i (x ∷ y ∷ ys) end ≡ cond (ltb y x) (refuses 11 (suc i)) (gives (Some (suc i)))
  gaps-here h = rw (near-here r x y ys h, lt-ltb 1 (suc (suc (length ys))) (omega arith), add-one i)

  -- or a later one
  gaps-later : x + r ≤ y → gaps_from r i (x ∷ y ∷ ys) end ≡ gaps_from r (suc i) (y ∷ ys) end
  gaps-later h = rw (near-later r x y ys h) (go (first_near r (y ∷ ys)) (near-some r y ys))
    where
      go : (q : ℕ) → 1 ≤ q
          → cond (ltb (suc q) (suc (suc (length ys)))) (gap_here i (x ∷ y ∷ ys) (suc q)) end ≡ cond (ltb q (suc (length ys))) (gap_here (suc i) (y ∷ ys) q) end
      go zero k = absurd (omega arith)
      go (suc q) k =
          let e : i + suc (suc q) ≡ suc i + suc q = omega arith in
          let f : suc (suc q) - 1 ≡ suc q = omega arith in
          let g : suc q - 1 ≡ q = omega arith in
          elim (dec_lt (suc q) (suc (length ys))) [
            | yes l ↦ rw (lt-ltb (suc q) (suc (length ys)) l, lt-ltb (suc (suc q)) (suc (suc (length ys))) (omega arith), e, f, g)
            | no l ↦ rw (le-ltb (suc q) (suc (length ys)) (omega arith), le-ltb (suc (suc q)) (suc (suc (length ys))) (omega arith))
          ]

module _ (answer : ℕ → Outcome Found) (r : ℕ) where
  -- from the position after i on, where position i has a time
  gaps-from : (k i : ℕ) (f : Found) → answer i ≡ gives f
      → repeat_from answer r k (suc i) ≡ gaps_from r i (f.value ∷ times_from answer k (suc i)) (ending (stop_from answer k (suc i)))
  unfolding repeat_from times_from stop_from test
  gaps-from zero i f e = rw (near-one r f.value)
  gaps-from (suc k) i f e = go (answer (suc i)) refl (gaps-from k (suc i))
    where
      go : (z : Outcome Found) → answer (suc i) ≡ z
          → ((g : Found) → answer (suc i) ≡ gives g
          → repeat_from answer r k (suc (suc i)) ≡ gaps_from r (suc i) (g.value ∷ times_from answer k (suc (suc i))) (ending (stop_from answer k (suc (suc i)))))
          → repeat_from answer r (suc k) (suc i) ≡ gaps_from r i (f.value ∷ times_from answer (suc k) (suc i)) (ending (stop_from answer (suc k) (suc i)))
      go (refuses q c) d later = rw (d, near-one r f.value)
      go (gives g) d later = elim (dec_lt g.value (f.value + r)) [
        | yes n ↦ rw (d, e) (here (dec_lt g.value f.value) n ∙ sym (gaps-here r i f.value g.value (times_from answer k (suc (suc i))) (ending (stop_from answer k (suc (suc i)))) n))
        | no n ↦
            rw (d, e, le-ltb g.value f.value (omega arith), le-ltb (g.value - f.value) r (omega arith))
            (later g d ∙ sym (gaps-later r i f.value g.value (times_from answer k (suc (suc i))) (ending (stop_from answer k (suc (suc i)))) (omega arith)))
      ]
        where
          here : Dec (g.value < f.value) → g.value < f.value + r
              → after (test (ltb g.value f.value) 11 (suc i)) (λ _. cond (ltb (g.value - f.value) r) (gives (Some (suc i))) (repeat_from answer r k (suc (suc i))))
              ≡ cond (ltb g.value f.value) (refuses 11 (suc i)) (gives (Some (suc i)))
          here (yes h) n = rw (lt-ltb g.value f.value h)
          here (no h) n = rw (le-ltb g.value f.value (omega arith), lt-ltb (g.value - f.value) r (omega arith))

  pub repeat-lists : (k : ℕ) → repeat_from answer r k 0 ≡ gap_or r (times_from answer k 0) (ending (stop_from answer k 0))
  unfolding repeat_from times_from stop_from test first_near
  repeat-lists zero = refl
  repeat-lists (suc k) = go (answer 0) refl
    where
      go : (z : Outcome Found) → answer 0 ≡ z → repeat_from answer r (suc k) 0 ≡ gap_or r (times_from answer (suc k) 0) (ending (stop_from answer (suc k) 0))
      go (refuses q c) d = rw d
      go (gives f) d = rw d (gaps-from k 0 f d ∙ rw (zero-add (first_near r (f.value ∷ times_from answer k 1))))

-- the position that is given, which position 0 never is
abbrev pub position_or1 : Outcome (Option ℕ) → ℕ
position_or1 (gives None) = 1
position_or1 (gives (Some i)) = i
position_or1 (refuses r c) = 1

pub repeat-positive : (answer : ℕ → Outcome Found) (r k : ℕ) → 1 ≤ position_or1 (repeat_from answer r k 0)
repeat-positive answer r k = rw (repeat-lists answer r k) (at-end (stop_from answer k 0) (times_from answer k 0))
  where
    here : (lower : Bool) (q : ℕ) → 1 ≤ q → 1 ≤ position_or1 (cond lower (refuses 11 q) (gives (Some q)))
    here true q h = omega arith
    here false q h = h

    none_left : (z : Test) → 1 ≤ position_or1 (ending z)
    none_left (gives u) = omega arith
    none_left (refuses q c) = omega arith

    at-end : (z : Test) (xs : List ℕ) → 1 ≤ position_or1 (gap_or r xs (ending z))
    at-end z xs = elim (dec_lt (first_near r xs) (length xs)) [
      | yes l ↦
          rw (lt-ltb (first_near r xs) (length xs) l)
          (here (ltb (get_or xs (first_near r xs) 0) (get_or xs (first_near r xs - 1) 0)) (first_near r xs) (near-positive r xs (omega arith)))
      | no l ↦ rw (le-ltb (first_near r xs) (length xs) (omega arith)) (none_left z)
    ]

-- in an ordered list no time is lower
gaps-ordered : (r i : ℕ) (xs : List ℕ) → T (ordered xs) → gaps_from r i xs (gives None) ≡ gives (gap_from r i xs)
unfolding ordered first_near gap_from
gaps-ordered r i [] o = refl
gaps-ordered r i (x ∷ []) o = refl
gaps-ordered r i (x ∷ y ∷ ys) o = elim (dec_lt y x) [
  | yes l ↦ absurd (rw (lt-leb x y l) at o)
  | no l ↦ elim (dec_lt y (x + r)) [
    | yes n ↦ gaps-here r i x y ys (gives None) n ∙ rw (le-ltb y x (omega arith), lt-ltb (y - x) r (omega arith))
    | no n ↦
        gaps-later r i x y ys (gives None) (omega arith)
        ∙ rw (le-ltb (y - x) r (omega arith)) (gaps-ordered r (suc i) (y ∷ ys) (rw (le-leb x y (omega arith)) at o))
  ]
]

pub gap-ordered : (r : ℕ) (xs : List ℕ) → T (ordered xs) → gap_or r xs (gives None) ≡ gives (first_gap r xs)
gap-ordered r xs o = rw (zero-add (first_near r xs)) at (gaps-ordered r 0 xs o)

-- ---- check

module _ (answer : ℕ → Outcome Found) {A : Type 0} (rest : List Test) (a : A) where
  no_gap : (time : ℕ → ℕ) (i : ℕ) → near_at time 0 i ≡ false
  no_gap time zero = refl
  no_gap time (suc i) = le-ltb (time (suc i) - time i) 0 (omega arith)

  -- check's tests are those of repeat with r = 0, which no gap is below
  check-repeats : (k i : ℕ) → verdict (positions_tests answer k i ++ rest) a ≡ after (repeat_from answer 0 k i) (λ _. verdict rest a)
  unfolding positions_tests repeat_from verdict test
  check-repeats zero i = refl
  check-repeats (suc k) i = rw (no_gap (time_at answer) i) (go (position_test answer i) (check-repeats k (suc i)))
    where
      go : (z : Test) → verdict (positions_tests answer k (suc i) ++ rest) a ≡ after (repeat_from answer 0 k (suc i)) (λ _. verdict rest a)
          → after z (λ _. verdict (positions_tests answer k (suc i) ++ rest) a) ≡ after (after z (λ _. repeat_from answer 0 k (suc i))) (λ _. verdict rest a)
      go (gives u) e = e
      go (refuses r c) e = refl

pub falls-first : {A : Type 0} (xs : List ℕ) (end : Outcome (Option ℕ)) (f : Option ℕ → Outcome A) → after (gap_or 0 xs end) f ≡ after (falls_test xs) (λ _. after end f)
unfolding test
falls-first xs end f = elim (dec_lt (first_near 0 xs) (length xs)) [
  | yes l ↦
      rw (not-ordered xs (rw (lower-near xs) l), lower-near xs, lt-ltb (first_near 0 xs) (length xs) l, lt-ltb (get_or xs (first_near 0 xs) 0) (get_or xs (first_near 0 xs - 1) 0) (omega (arith, near-at 0 xs l)))
  | no l ↦ rw (is-ordered xs (rw (lower-near xs) (omega arith)), le-ltb (first_near 0 xs) (length xs) (omega arith))
]

-- 11 for the times that are listed, then the refusal that ends them, then 12
pub check-lists : (s : List ℕ) (levels : Levels) → check_in s levels ≡ verdict (falls_test (list_in s levels) ∷ stop_all levels s ∷ image_test s levels ∷ []) levels.pins
unfolding list_in verdict
check-lists s levels =
    let last : Outcome ℕ = verdict (image_test s levels ∷ []) levels.pins in
    check-repeats (accesses levels s) (image_test s levels ∷ []) levels.pins levels.pins 0
    ∙ ap (λ (o : Outcome (Option ℕ)). after o (λ _. last)) (repeat-lists (accesses levels s) 0 levels.pins)
    ∙ falls-first (times_all levels s) (ending (stop_all levels s)) (λ _. last)
    ∙ ap (λ (o : Outcome ℕ). after (falls_test (times_all levels s)) (λ _. o)) (after-after (stop_all levels s) (λ _. gives None) (λ _. last))
