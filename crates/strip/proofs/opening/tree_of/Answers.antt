use native.Mathlib.Omega.{arith}
use mathlib.Core.Path.{◌≡◌, refl, sym, ap, ◌∙◌}
use mathlib.Core.List.{List, [], ◌∷◌, ◌++◌}
use Prim.Native.Nat.{ℕ, suc, ◌+◌, ◌-◌}
use native.Mathlib.Nat.{sub-zero}
use lib.ListN.{get_or}
use Rattle.tree.specs.Shape.{height}
use Rattle.tree.specs.Outcomes.{gives, after, verdict}
use Rattle.strip.specs.Layout.{pins_of, code_at, length_at, parts_start, end_after, entered, laid_out}
use Rattle.strip.specs.Opening.{opening, entries_tests, length_by_entries, length_test, level_tests, levels_in}
use Rattle.strip.specs.Refusals.{outcome}
use Rattle.strip.proofs.Layouts.{height_fits, entered-none, entered-next, entered_all, end-start, end-next}
use Rattle.strip.proofs.Openings.{opened-refused, entries-end, entries_next, length-differs, length-agrees}
use Rattle.strip.proofs.OpenStrips.{open-fits}
use Rattle.strip.proofs.Exits.{refusal-after, after-given}
use Rattle.strip.proofs.opening.tree_of.Goals as goal
use Rattle.strip.proofs.opening.tree_of.Goals.{After-test_entry, Else-end-s}

-- after all levels
at-end : (s : List ℕ) (n h d end : ℕ) → n ≡ pins_of s → h ≡ height n → d ≡ h → end ≡ end_after (parts_start n) (length_at s) d → end ≡ length_by_entries s
at-end s n h d end p q r e = rw (r, q, p) at e

-- what is left to test once the entry of level d is tested
tested : (c : After-test_entry) → let s = c.args.s.now in let next = c.loop-d.d + 1 in
    verdict (level_tests s) (levels_in s)
    ≡ after (outcome c.test_entry.result) (λ _. verdict (entries_tests s (c.height-d-end.result - next) next ++ (length_test s ∷ [])) (levels_in s))
tested c =
    let s = c.args.s.now in
    let e = rw (c.count_of.ensures.1, c.four_at-bytes.ensures.0, c.requires.header_fits.0) at c.test_entry.ensures in
    c.loop-d.invariant.5 ∙ entries_next s (length_test s ∷ []) (levels_in s) _ c.loop-d.d (omega arith) _ (sym e)

pub loop-d-init : goal.loop-d-init
loop-d-init c =
    let s = c.args.s.now in
    let low = height_fits c.args.n (omega arith) in
    let blank = c.no_levels-levels.ensures in
    let start : get_or c.no_levels-levels.result.ends 0 0 ≡ parts_start c.args.n = rw blank in (
      c.height-d-end.ensures,
      omega arith,
      omega (arith, start),
      start ∙ sym (end-start (parts_start c.args.n) (length_at s)),
      blank ∙ entered-none c.args.n (code_at s) (length_at s),
      rw (sub-zero c.height-d-end.result, c.height-d-end.ensures, c.requires.header_fits.0),
    )

pub returns-in_err-test_entry-clause-result_value : goal.returns-in_err-test_entry-clause-result_value
returns-in_err-test_entry-clause-result_value c =
    opened-refused _ _ c.from_residual.ensures.1 ∙ refusal-after _ _ _ refl c.in_err-test_entry.was
    ∙ sym (c.requires.left ∙ tested (goal.at.returns-in_err-test_entry-clause-result_value c).After-test_entry)

pub loop-d-preserved : goal.loop-d-preserved
loop-d-preserved c =
    let s = c.args.s.now in
    let d = c.loop-d.d in
    let start = parts_start c.args.n in
    let next : d + 1 ≡ suc d = omega arith in
    let e : c.loop-d.end + c.four_at-bytes.result ≡ end_after start (length_at s) (suc d) =
    rw (c.four_at-bytes.ensures.0, c.loop-d.invariant.3) (sym (end-next start (length_at s) d)) in (
      c.loop-d.invariant.0,
      c.loop-d.invariant.1,
      omega arith,
      rw next e,
      rw c.loop-d.invariant.4
          (entered-next c.args.n (code_at s) (length_at s) d (code_at s d) (c.loop-d.end + c.four_at-bytes.result) refl e),
      tested (goal.at.loop-d-preserved c).After-test_entry ∙ sym (after-given _ _ _ refl c.in_ok-test_entry.was),
    )

pub returns-then-end-s-clause-result_value : goal.returns-then-end-s-clause-result_value
returns-then-end-s-clause-result_value c =
    let s = c.args.s.now in
    let e = at-end s c.args.n c.height-d-end.result c.loop-d.d c.loop-d.end c.requires.header_fits.0 c.height-d-end.ensures (omega arith) c.loop-d.invariant.3 in
    let t = entries-end s (length_test s ∷ []) (levels_in s) (c.height-d-end.result - c.loop-d.d) c.loop-d.d (omega arith) in
    sym (c.requires.left ∙ c.loop-d.invariant.5 ∙ t ∙ length-differs s (levels_in s) (λ q. omega (arith, e)))

-- the levels that are told
levels-are : (c : Else-end-s) → gives c.loop-d.levels ≡ opening c.args.s.now
levels-are c =
    let s = c.args.s.now in
    let e = at-end s c.args.n c.height-d-end.result c.loop-d.d c.loop-d.end c.requires.header_fits.0 c.height-d-end.ensures (omega arith) c.loop-d.invariant.3 in
    let t = entries-end s (length_test s ∷ []) (levels_in s) (c.height-d-end.result - c.loop-d.d) c.loop-d.d (omega arith) in
    let all : c.loop-d.levels ≡ laid_out c.args.n (code_at s) (length_at s) =
    c.loop-d.invariant.4 ∙ ap (entered c.args.n (code_at s) (length_at s)) (omega (arith, c.height-d-end.ensures)) ∙ entered_all c.args.n (code_at s) (length_at s) in
    rw (all, c.requires.header_fits.0) (sym (c.requires.left ∙ c.loop-d.invariant.5 ∙ t ∙ length-agrees s (levels_in s) (omega (arith, e))))

pub invariant_of-result : goal.invariant_of-result
invariant_of-result c =
    let s = c.args.s.now in
    record { fits = open-fits s _ (λ j. (c.type_inv.s j).fits) (sym (levels-are c)) }

pub invariant_of-result-2 : goal.invariant_of-result-2
invariant_of-result-2 c = record { is_open = (sym (levels-are (goal.at.invariant_of-result-2 c).Else-end-s), λ j. (c.type_inv.s j).fits) }

pub returns : goal.returns
returns c = record { result_value = levels-are (goal.at.returns c).Else-end-s; bytes_value = refl }
