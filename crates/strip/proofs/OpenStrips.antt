-- What opening has found out of a strip that is open; so its levels fit its bytes.
use mathlib.Core.Path.{◌≡◌}
use mathlib.Core.Bool.{true}
use mathlib.Core.List.{List, [], ◌∷◌, ◌++◌}
use Prim.Native.Nat.{ℕ, zero, suc, ◌+◌, ◌*◌, ◌^◌, ◌≤◌, ◌<◌}
use native.Mathlib.Decide.{dec_lt}
use native.Mathlib.Omega.{arith}
use lib.Dec.{eqb}
use lib.ListN.{length}
use borrow.Author.Tests.{ltb-false, eqb-true, not-false}
use Rattle.codes.specs.Codes.{kind_of, is_exact, Within}
use Rattle.tree.specs.declared.nodes.Levels.{Levels}
use Rattle.tree.specs.Shape.{height}
use Rattle.tree.specs.Levels.{count_of, Fits}
use Rattle.tree.specs.Outcomes.{gives, Test, verdict}
use Rattle.tree.proofs.Promises.{outcome-laws}
use Rattle.strip.specs.Layout.{version, two_at, pins_of, code_at, length_at, parts_start}
use Rattle.strip.specs.Opening.{has_mark, header_tests, entries_tests, length_by_entries, length_test, level_tests, levels_in, opening}
use Rattle.strip.proofs.Layouts.{laid-fits}
use Rattle.strip.proofs.Verdicts.{verdict-passed}

-- the level below d others has a code, and where that is fixed exactly the bytes that its values need
abbrev pub Exact : List ℕ → ℕ → Type 0
Exact s d = is_exact (kind_of (code_at s d)) (count_of (pins_of s) d) (length_at s d) ≡ true

pub record Open (s : List ℕ) (levels : Levels) : Type 0 where
  pub levels-are : levels_in s ≡ levels
  pub long : parts_start (pins_of s) ≤ length s
  pub marked : has_mark s ≡ true
  pub versioned : two_at s 3 ≡ version
  pub exact : (d : ℕ) → d < height (pins_of s) → Exact s d
  pub whole : length_by_entries s ≡ length s

entries-passed : {A : Type 0} (s : List ℕ) (ts : List Test) (a x : A) (k d : ℕ) → verdict (entries_tests s k d ++ ts) a ≡ gives x
    → ((i : ℕ) → d ≤ i → i < d + k → Exact s i) × (verdict ts a ≡ gives x)
unfolding entries_tests
entries-passed s ts a x zero d e = (λ i l h. absurd (omega arith), e)
entries-passed s ts a x (suc k) d e =
    let known = verdict-passed _ _ _ _ _ x e in
    let exact = verdict-passed _ _ _ _ _ x known.1 in
    let later = entries-passed s ts a x k (suc d) exact.1 in
    (λ i l h. elim (dec_lt d i) [ yes m ↦ later.0 i m (omega arith) | no m ↦ (let q : i ≡ d = omega arith in rw q (not-false _ exact.0)) ], later.1)

pub open_told : (s : List ℕ) (levels : Levels) → opening s ≡ gives levels → Open s levels
unfolding opening
open_told s levels e =
    let t₁ = verdict-passed _ _ _ _ _ levels e in
    let t₂ = verdict-passed _ _ _ _ _ levels t₁.1 in
    let t₃ = verdict-passed _ _ _ _ _ levels t₂.1 in
    let t₄ = verdict-passed _ _ _ _ _ levels t₃.1 in
    let t₅ = verdict-passed _ _ _ _ _ levels t₄.1 in
    let entries = entries-passed s (length_test s ∷ []) (levels_in s) levels (height (pins_of s)) 0 t₅.1 in
    let t₆ = verdict-passed _ _ _ _ _ levels entries.1 in
    record {
      levels-are = outcome-laws.given (header_tests s ++ level_tests s) (levels_in s) levels e;
      long = ltb-false (length s) (parts_start (pins_of s)) t₅.0;
      marked = not-false (has_mark s) t₂.0;
      versioned = eqb-true (two_at s 3) version (not-false (eqb (two_at s 3) version) t₃.0);
      exact = λ d h. entries.0 d (omega arith) (omega arith);
      whole = eqb-true (length_by_entries s) (length s) (not-false (eqb (length_by_entries s) (length s)) t₆.0);
    }

pub open-fits : (s : List ℕ) (levels : Levels) → Within 8 s → opening s ≡ gives levels → Fits levels s
open-fits s levels bytes e =
    let o = open_told s levels e in
    let few : pins_of s < 2 ^ 16 = omega (arith, bytes 5, bytes 6) in
    rw (← o.levels-are) (laid-fits (pins_of s) (code_at s) (length_at s) few s (λ d h. (short d, o.exact d h)) o.whole)
  where
    short : (d : ℕ) → length_at s d < 2 ^ 32
    short d = omega (arith, bytes (8 + 5 * d), bytes (8 + 5 * d + 1), bytes (8 + 5 * d + 2), bytes (8 + 5 * d + 2 + 1))
