-- 9 comes from a walk alone, whose nodes are those of a strip that is open. All other refusals have other numbers.
use mathlib.Core.Path.{◌≡◌, refl, ap, ◌∙◌}
use mathlib.Core.Bool.{Bool, true, false, cond}
use mathlib.Core.List.{List, [], ◌∷◌, ◌++◌}
use Rattle.std.specs.Prelude.{None, Some}
use Prim.Native.Nat.{ℕ, zero, suc, ◌-◌, ◌^◌}
use native.Mathlib.Nat.{le_refl}
use lib.Dec.{eqb, leb}
use borrow.Author.Tests.{eqb-false}
use Rattle.codes.specs.Codes.{Within}
use Rattle.tree.specs.declared.nodes.Levels.{Levels}
use Rattle.tree.specs.Shape.{height}
use Rattle.tree.specs.Outcomes.{Outcome, gives, refuses, after, test, verdict}
use Rattle.tree.specs.Times.{times_in}
use Rattle.tree.specs.Walks.{Among, met, toward, access_answer, target_from, found}
use Rattle.tree.specs.Sweeps.{sweep_answer}
use Rattle.tree.specs.Listing.{accesses}
use Rattle.tree.proofs.Promises.{outcome-laws, nine-chunked as tree-nines}
use Rattle.strip.specs.Layout.{pins_of}
use Rattle.strip.specs.Opening.{entries_tests, length_test, levels_in, opening}
use Rattle.strip.specs.Calls.{access_in, access_of, search_in, search_of, up_to_of, sweep_tests, sweep_of, time_at, position_test, positions_tests, image_test, check_of, unpack_of, near_at, repeat_from, repeat_of, step_of}
use Rattle.strip.specs.Promises.{CarriesChunked, EveryNine, NineChunked}
use Rattle.strip.proofs.OpenStrips.{open-fits}

module _ (s : List ℕ) (bytes : Within 8 s) where
  -- ---- one outcome after another

  given : {A : Type 0} (a : A) → CarriesChunked s (gives a)
  given a v e = absurd (outcome-laws.never e)

  then : {A B : Type 0} (o : Outcome A) (f : A → Outcome B) → CarriesChunked s o → ((a : A) → o ≡ gives a → CarriesChunked s (f a)) → CarriesChunked s (after o f)
  then (gives a) f p q v e = q a refl v e
  then (refuses r c) f p q v e = p v (let x : r ≡ 9 = cc in let y : c ≡ v = cc in rw (x, y))

  tested : (b : Bool) (r c : ℕ) → eqb r 9 ≡ false → CarriesChunked s (test b r c)
  unfolding test
  tested true r c n v e = let x : r ≡ 9 = cc in absurd (eqb-false r 9 n x)
  tested false r c n v e = absurd (outcome-laws.never e)

  either : {A : Type 0} (b : Bool) {o u : Outcome A} → CarriesChunked s o → CarriesChunked s u → CarriesChunked s (cond b o u)
  either true p q = p
  either false p q = q

  first : {A B : Type 0} (o : Outcome B) (os : List (Outcome B)) (a : A) → CarriesChunked s o → CarriesChunked s (verdict os a) → CarriesChunked s (verdict (o ∷ os) a)
  unfolding verdict
  first o os a p q = then o _ p (λ _ _. q)

  last : {A B : Type 0} (o : Outcome B) (a : A) → CarriesChunked s o → CarriesChunked s (verdict (o ∷ []) a)
  unfolding verdict
  last o a p = then o _ p (λ _ _. given a)

  -- ---- opening refuses with other numbers

  entries : (k d : ℕ) → CarriesChunked s (verdict (entries_tests s k d ++ (length_test s ∷ [])) (levels_in s))
  unfolding entries_tests
  entries zero d = last _ _ (tested _ 13 0 refl)
  entries (suc k) d = first _ _ _ (tested _ 8 (suc d) refl) (first _ _ _ (tested _ 23 (suc d) refl) (entries k (suc d)))

  opened : CarriesChunked s (opening s)
  unfolding opening
  opened =
      first _ _ _ (tested _ 5 0 refl) (first _ _ _ (tested _ 6 0 refl) (first _ _ _ (tested _ 7 0 refl) (first _ _ _ (tested _ 1 0 refl) (first _ _ _ (tested _ 5 0 refl)
      (entries (height (pins_of s)) 0)))))

  call : {A : Type 0} (f : Levels → Outcome A) → ((levels : Levels) → opening s ≡ gives levels → CarriesChunked s (f levels)) → CarriesChunked s (after (opening s) f)
  call f q = then (opening s) f opened q

  -- ---- the walks, and what asks for accesses

  module _ (levels : Levels) (e : opening s ≡ gives levels) where
    walk : {A : Type 0} (vs : List ℕ) → Among levels.pins vs → (a : A) → CarriesChunked s (met (times_in levels s) vs a)
    walk vs m a v q = (levels, e, tree-nines.carried levels s vs (open-fits s levels bytes e) m a v q)

    at-access : (i : ℕ) → CarriesChunked s (accesses levels s i)
    unfolding access_answer toward
    at-access i = walk _ (tree-nines.walks levels.pins _ _ 1 (le_refl 1)) _

    at-search : (t : ℕ) → CarriesChunked s (search_in s t levels)
    unfolding target_from
    at-search t = walk _ (tree-nines.walks levels.pins _ _ 1 (le_refl 1)) _

    in-access : (i : ℕ) → CarriesChunked s (access_in s i levels)
    in-access i = then _ _ (tested _ 14 0 refl) (λ _ _. at-access i)

    at_position : (i : ℕ) → CarriesChunked s (position_test (accesses levels s) i)
    at_position i = then _ _ (at-access i) (λ f _. tested _ 11 i refl)

    checks : (k i : ℕ) → CarriesChunked s (verdict (positions_tests (accesses levels s) k i ++ (image_test s levels ∷ [])) levels.pins)
    unfolding positions_tests
    checks zero i = last _ _ (tested _ 12 0 refl)
    checks (suc k) i = first _ _ _ (at_position i) (checks k (suc i))

    repeats : (r k i : ℕ) → CarriesChunked s (repeat_from (accesses levels s) r k i)
    unfolding repeat_from
    repeats r zero i = given _
    repeats r (suc k) i = then _ _ (at_position i) (λ _ _. either (near_at (time_at (accesses levels s)) r i) (given (Some i)) (repeats r k (suc i)))

    sweep : (ts : List ℕ) → CarriesChunked s (sweep_answer levels.pins (times_in levels s) ts)
    sweep ts = walk _ (tree-nines.sweeps levels.pins (times_in levels s) ts) _

  checked : CarriesChunked s (check_of s)
  unfolding check_of
  checked = call _ (λ levels e. checks levels e levels.pins 0)

  every : EveryNine s
  unfolding access_of search_of up_to_of sweep_of unpack_of repeat_of step_of
  every = record {
    access = λ i. call _ (λ levels e. in-access levels e i);
    search = λ t. call _ (λ levels e. at-search levels e t);
    up_to = λ t. call _ (λ levels e. either (eqb t (2 ^ 32 - 1)) (given (found levels.pins 0)) (at-search levels e (suc t)));
    sweep = λ ts room. call _ (λ levels e. then _ _ (first _ _ _ (tested _ 15 0 refl) (last _ _ (tested _ 16 _ refl)))
        (λ l q. sweep l (e ∙ ap gives (outcome-laws.given (sweep_tests ts room) levels l q)) ts));
    check = checked;
    unpack = λ room. then _ _ checked (λ n _. last _ _ (tested _ 4 n refl));
    repeat = λ r. call _ (λ levels e. repeats levels e r levels.pins 0);
    step = λ i. call _ (λ levels e. either (leb levels.pins i) (given None) (then _ _ (in-access levels e i) (λ f _. given (Some f))));
  }

pub only_chunked : NineChunked
only_chunked = every
