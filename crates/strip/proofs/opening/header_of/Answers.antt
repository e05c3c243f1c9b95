-- Each branch fails one test and has passed those before it, in the order of `header_tests`; n has two bytes, so that h is at most 16.
use native.Mathlib.Omega.{arith}
use mathlib.Core.Path.{◌≡◌, sym, ap, ◌∙◌}
use mathlib.Core.Bool.{Bool, true}
use mathlib.Core.List.{List}
use Prim.Native.Nat.{ℕ, ◌≤◌}
use lib.Dec.{eqb}
use lib.ListN.{length}
use Rattle.std.specs.List.{starts_with}
use Rattle.tree.specs.Outcomes.{gives}
use Rattle.strip.specs.Layout.{mark}
use Rattle.strip.specs.Opening.{has_mark}
use Rattle.strip.proofs.Openings.{starts-mark, cut_short, other-mark, other-version, no_pins, entries-cut, header-passes}
use Rattle.strip.proofs.Layouts.{height_fits}
use Rattle.strip.proofs.opening.header_of.Goals as goal

pub returns-then-s-lt7-clause-result_value : goal.returns-then-s-lt7-clause-result_value
returns-then-s-lt7-clause-result_value c = sym (cut_short c.args.s.now (omega arith))

pub returns-then-not-starts_with-clause-result_value : goal.returns-then-not-starts_with-clause-result_value
returns-then-not-starts_with-clause-result_value c =
    let s = c.args.s.now in
    sym (other-mark s (omega arith) (sym (starts-mark s (omega arith)) ∙ sym c.starts_with.ensures.value ∙ c.if-not-starts_with.true))

marked : (s : List ℕ) (b : Bool) → 3 ≤ length s → b ≡ starts_with eqb s mark → b ≡ true → has_mark s ≡ true
marked s b h e t = sym (starts-mark s h) ∙ sym e ∙ t

pub returns-then-two_at-ne1-clause-result_value : goal.returns-then-two_at-ne1-clause-result_value
returns-then-two_at-ne1-clause-result_value c =
    let s = c.args.s.now in
    let m = marked s _ (omega arith) c.starts_with.ensures.value c.if-not-starts_with.false in
    sym (other-version s (omega arith) m (λ e. omega arith))

pub returns-then-n-eq0-clause-result_value : goal.returns-then-n-eq0-clause-result_value
returns-then-n-eq0-clause-result_value c =
    let s = c.args.s.now in
    let m = marked s _ (omega arith) c.starts_with.ensures.value c.if-not-starts_with.false in
    sym (no_pins s (omega arith) m (omega arith) (omega arith))

pub overflow_mul-height : goal.overflow_mul-height
overflow_mul-height c = omega (arith, height_fits c.two_at-n.result (omega arith))

pub overflow_add-height : goal.overflow_add-height
overflow_add-height c = omega (arith, height_fits c.two_at-n.result (omega arith))

pub returns-then-s-height-clause-result_value : goal.returns-then-s-height-clause-result_value
returns-then-s-height-clause-result_value c =
    let s = c.args.s.now in
    let m = marked s _ (omega arith) c.starts_with.ensures.value c.if-not-starts_with.false in
    let n = c.two_at-n.ensures in
    sym (entries-cut s (omega arith) m (omega arith) (λ e. omega arith) (rw (← n.0) (omega arith)))

pub returns-clause-result_value : goal.returns-clause-result_value
returns-clause-result_value c =
    let s = c.args.s.now in
    let m = marked s _ (omega arith) c.starts_with.ensures.value c.if-not-starts_with.false in
    let n = c.two_at-n.ensures in
    ap gives n.0 ∙ sym (header-passes s (omega arith) m (omega arith) (λ e. omega arith) (rw (← n.0) (omega arith)))
