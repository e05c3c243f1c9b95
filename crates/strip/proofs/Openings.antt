-- Opening refuses by the first of 5, 6, 7, 1, 5, then level by level 8 and 23, then 13 that holds, and otherwise finds the levels.
use mathlib.Core.Path.{◌≡◌, refl, sym, ap, ◌∙◌}
use mathlib.Core.Bool.{Bool, true, false, not, ◌&&◌}
use mathlib.Core.List.{List, [], ◌∷◌, ◌++◌}
use Prim.Native.Nat.{ℕ, suc, ◌+◌, ◌-◌, ◌*◌, ◌≤◌, ◌<◌}
use native.Mathlib.Numerals.{add-one}
use native.Mathlib.Omega.{arith}
use lib.Dec.{eqb, ltb}
use lib.ListN.{length, drop}
use borrow.Author.Tests.{lt-ltb, le-ltb, eq-eqb, ne_eqb}
use Rattle.codes.specs.declared.kinds.Kind.{Kind}
use Rattle.codes.specs.declared.kinds.Kind.TheVariants.{Fixed, Chunked, Refused}
use Rattle.codes.specs.Bits.{bytes_for}
use Rattle.codes.specs.Codes.{kind_of, is_exact}
use native.Mathlib.Decide.{dec_lt}
use Rattle.std.specs.List.{starts_with}
use Rattle.std.specs.Prelude.{Result, Ok, Err}
use Rattle.std.specs.Result.{IsErrAnd}
use Rattle.strip.specs.declared.refusals.Refusal.{Refusal as CallRefusal}
use Rattle.strip.specs.declared.open.Open.{Open}
use Rattle.strip.specs.Opened.{opened}
use Rattle.strip.specs.Refusals.{refusal, outcome}
use Rattle.std.proofs.lemmas.Result.{err_from_is_err_and}
use Rattle.strip.proofs.Exits.{handed-up}
use Rattle.tree.specs.declared.nodes.Levels.{Levels}
use Rattle.tree.specs.Levels.{count_of}
use Rattle.tree.specs.Outcomes.{Outcome, gives, refuses, after, Test, test, verdict}
use Rattle.tree.proofs.Promises.{outcome-laws}
use Rattle.strip.specs.Layout.{mark, version, two_at, pins_of, code_at, length_at, parts_start}
use Rattle.strip.specs.Opening.{has_mark, header_tests, is_refused, entry_tests, entry_tests_at, entries_tests, length_by_entries, length_test, level_tests, levels_in, opening}
use Rattle.strip.proofs.Verdicts.{verdict-holds, verdict-passes}

-- ---- the header, test by test

eqb-swap : (a b : ℕ) → eqb a b ≡ eqb b a
eqb-swap a b = elim (dec_lt a b) [
  | yes l ↦ rw (ne_eqb a b (λ e. omega arith), ne_eqb b a (λ e. omega arith))
  | no l ↦ elim (dec_lt b a) [
    | yes m ↦ rw (ne_eqb a b (λ e. omega arith), ne_eqb b a (λ e. omega arith))
    | no m ↦ rw (eq-eqb a b (omega arith), eq-eqb b a (omega arith))
  ]
]

-- the mark, byte by byte
pub starts-mark : (s : List ℕ) → 3 ≤ length s → starts_with eqb s mark ≡ has_mark s
starts-mark [] h = absurd (omega arith)
starts-mark (x ∷ []) h = absurd (omega arith)
starts-mark (x ∷ y ∷ []) h = absurd (omega arith)
starts-mark (x ∷ y ∷ z ∷ s) h = rw (eqb-swap x 0x50, eqb-swap y 0x49, eqb-swap z 0x4e) (both (eqb 0x50 x) (eqb 0x49 y) (eqb 0x4e z))
  where
    both : (p q r : Bool) → p && (q && (r && true)) ≡ p && q && r
    both true true true = refl
    both true true false = refl
    both true false r = refl
    both false q r = refl

module _ (s : List ℕ) where
  pub cut_short : length s < 7 → verdict (header_tests s) (pins_of s) ≡ refuses 5 0
  cut_short l = verdict-holds 5 0 (drop 1 (header_tests s)) (pins_of s) (ltb (length s) 7) (lt-ltb (length s) 7 l)

  module _ (l : 7 ≤ length s) where
    past-length : verdict (header_tests s) (pins_of s) ≡ verdict (drop 1 (header_tests s)) (pins_of s)
    past-length = verdict-passes 5 0 (drop 1 (header_tests s)) (pins_of s) (ltb (length s) 7) (le-ltb (length s) 7 l)

    pub other-mark : has_mark s ≡ false → verdict (header_tests s) (pins_of s) ≡ refuses 6 0
    other-mark m = past-length ∙ verdict-holds 6 0 (drop 2 (header_tests s)) (pins_of s) (not (has_mark s)) (rw m)

    module _ (m : has_mark s ≡ true) where
      past-mark : verdict (header_tests s) (pins_of s) ≡ verdict (drop 2 (header_tests s)) (pins_of s)
      past-mark = past-length ∙ verdict-passes 6 0 (drop 2 (header_tests s)) (pins_of s) (not (has_mark s)) (rw m)

      pub other-version : (two_at s 3 ≡ version → ⊥) → verdict (header_tests s) (pins_of s) ≡ refuses 7 0
      other-version v = past-mark ∙ verdict-holds 7 0 (drop 3 (header_tests s)) (pins_of s) (not (eqb (two_at s 3) version)) (rw (ne_eqb (two_at s 3) version v))

      module _ (v : two_at s 3 ≡ version) where
        past-version : verdict (header_tests s) (pins_of s) ≡ verdict (drop 3 (header_tests s)) (pins_of s)
        past-version = past-mark ∙ verdict-passes 7 0 (drop 3 (header_tests s)) (pins_of s) (not (eqb (two_at s 3) version)) (rw (eq-eqb (two_at s 3) version v))

        pub no_pins : pins_of s ≡ 0 → verdict (header_tests s) (pins_of s) ≡ refuses 1 0
        no_pins z = past-version ∙ verdict-holds 1 0 (drop 4 (header_tests s)) (pins_of s) (eqb (pins_of s) 0) (eq-eqb (pins_of s) 0 z)

        module _ (z : pins_of s ≡ 0 → ⊥) where
          past-pins : verdict (header_tests s) (pins_of s) ≡ verdict (drop 4 (header_tests s)) (pins_of s)
          past-pins = past-version ∙ verdict-passes 1 0 (drop 4 (header_tests s)) (pins_of s) (eqb (pins_of s) 0) (ne_eqb (pins_of s) 0 z)

          pub entries-cut : length s < parts_start (pins_of s) → verdict (header_tests s) (pins_of s) ≡ refuses 5 0
          entries-cut e = past-pins ∙ verdict-holds 5 0 [] (pins_of s) (ltb (length s) (parts_start (pins_of s))) (lt-ltb (length s) (parts_start (pins_of s)) e)

          pub header-passes : parts_start (pins_of s) ≤ length s → verdict (header_tests s) (pins_of s) ≡ gives (pins_of s)
          unfolding verdict test
          header-passes e = past-pins ∙ verdict-passes 5 0 [] (pins_of s) (ltb (length s) (parts_start (pins_of s))) (le-ltb (length s) (parts_start (pins_of s)) e)

-- ---- the levels, test by test

-- one level's, by its code and by whether it is as long as its values need
module _ {A : Type 0} (level count code bytes : ℕ) (a : A) where
  pub entry-refused : kind_of code ≡ Refused → verdict (entry_tests level count code bytes) a ≡ refuses 8 level
  unfolding verdict test
  entry-refused e = rw e

  pub entry-other-length : (w : ℕ) → kind_of code ≡ Fixed w → (bytes ≡ bytes_for (count * w) → ⊥) → verdict (entry_tests level count code bytes) a ≡ refuses 23 level
  unfolding verdict test
  entry-other-length w e n = rw (e, ne_eqb bytes (bytes_for (count * w)) n)

  pub entry-passes : is_exact (kind_of code) count bytes ≡ true → verdict (entry_tests level count code bytes) a ≡ gives a
  unfolding verdict test
  entry-passes e = rw (known (kind_of code) e, e)
    where
      known : (k : Kind) → is_exact k count bytes ≡ true → is_refused k ≡ false
      known (Fixed w) q = refl
      known (Chunked b) q = refl
      known Refused q = cc

-- the tests of the levels from the one below d others on, and what is tested then
module _ {A : Type 0} (s : List ℕ) (ts : List Test) (a : A) where
  pub entries-end : (k d : ℕ) → k ≡ 0 → verdict (entries_tests s k d ++ ts) a ≡ verdict ts a
  unfolding entries_tests
  entries-end k d e = rw e

  -- the tests of a level, then those of the levels below it
  pub entries-step : (k d : ℕ) → verdict (entries_tests s (suc k) d ++ ts) a ≡ after (verdict (entry_tests_at s d) (tt {0})) (λ _. verdict (entries_tests s k (suc d) ++ ts) a)
  unfolding entries_tests
  entries-step k d = outcome-laws.append (entry_tests_at s d) (entries_tests s k (suc d) ++ ts) a (tt {0})

  -- of h levels
  pub entries_next : (h d : ℕ) → d < h → (o : Test) → verdict (entry_tests (d + 1) (count_of (pins_of s) d) (code_at s d) (length_at s d)) (tt {0}) ≡ o
      → verdict (entries_tests s (h - d) d ++ ts) a ≡ after o (λ _. verdict (entries_tests s (h - (d + 1)) (d + 1) ++ ts) a)
  entries_next h d l o e =
      let one : h - d ≡ suc (h - (d + 1)) = omega arith in
      rw (one, ← e) (entries-step (h - (d + 1)) d ∙ ap (λ (i : ℕ). after (verdict (entry_tests i (count_of (pins_of s) d) (code_at s d) (length_at s d)) (tt {0})) (λ _. verdict (entries_tests s (h - (d + 1)) i ++ ts) a)) (sym (add-one d)))

module _ {A : Type 0} (s : List ℕ) (a : A) where
  pub length-differs : (length_by_entries s ≡ length s → ⊥) → verdict (length_test s ∷ []) a ≡ refuses 13 0
  length-differs n = verdict-holds 13 0 [] a (not (eqb (length_by_entries s) (length s))) (rw (ne_eqb (length_by_entries s) (length s) n))

  pub length-agrees : length_by_entries s ≡ length s → verdict (length_test s ∷ []) a ≡ gives a
  unfolding verdict test
  length-agrees e = rw (eq-eqb (length_by_entries s) (length s) e)

-- the header's tests, then the levels'
pub opening-steps : (s : List ℕ) → opening s ≡ after (verdict (header_tests s) (pins_of s)) (λ _. verdict (level_tests s) (levels_in s))
unfolding opening
opening-steps s = outcome-laws.append (header_tests s) (level_tests s) (levels_in s) (pins_of s)

-- as the code says
pub opening-is : (s : List ℕ) {o : Result Open CallRefusal} (x : Result Open CallRefusal) → opened o ≡ opening s → o ≡ x → opening s ≡ opened x
opening-is s x e q = sym e ∙ ap opened q

pub opened-refused : (r : Result Open CallRefusal) (x : CallRefusal) → IsErrAnd r (λ y. y ≡ x) → opened r ≡ refusal x
opened-refused r x h = let p = err_from_is_err_and r h in rw (p.1, p.2)

-- so a call answers as the opening refuses, or as it does for the levels
module _ {B : Type 0} (s : List ℕ) (o : Result Open CallRefusal) (f : Levels → Outcome B) (e : opened o ≡ opening s) where
  pub opening-refused : (r : Result B CallRefusal) (x : CallRefusal) → o ≡ Err x → IsErrAnd r (λ y. y ≡ x) → outcome r ≡ after (opening s) f
  opening-refused r x is h = handed-up r x h ∙ rw (← e, is)

  pub opening-given : (strip : Open) → o ≡ Ok strip → f strip.tree.levels ≡ after (opening s) f
  opening-given strip is = rw (← e, is)
