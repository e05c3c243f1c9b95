-- 15 and 16 are told first; then the tree sweeps, with marks or without.
use native.Mathlib.Omega.{arith}
use mathlib.Core.Path.{◌≡◌, refl, ap, ◌∙◌}
use mathlib.Core.Bool.{true}
use mathlib.Core.List.{List}
use Prim.Native.Nat.{ℕ}
use native.Mathlib.Nat.{zero-add}
use lib.ListN.{length}
use Rattle.codes.specs.Lists.{replaced}
use Rattle.tree.specs.declared.nodes.Levels.{Levels}
use Rattle.tree.specs.Lists.{ordered}
use Rattle.tree.specs.Outcomes.{Outcome, refuses}
use Rattle.tree.specs.Times.{times_in}
use Rattle.tree.specs.Sweeps.{sweep_answer, sweep_positions}
use Rattle.tree.proofs.Promises.{zero-marks}
use Rattle.strip.specs.Calls.{sweep_in, sweep_over}
use Rattle.strip.proofs.Gaps.{not-ordered, is-ordered}
use Rattle.strip.proofs.Exits.{walk-refused, walk-given}
use Rattle.strip.proofs.Sweeps.{lengths_differ, targets-fall, targets-follow}
use Rattle.strip.proofs.open.Open.sweep.Goals as goal

module _ (s ts answers : List ℕ) (levels : Levels) (same : length answers ≡ length ts) (in_order : ordered ts ≡ true) where
  -- where the targets follow each other, with an answer for each, what the tree's sweep answers and writes is the call's
  answer-is : {o : Outcome ℕ} → o ≡ sweep_answer levels.pins (times_in levels s) ts → o ≡ sweep_in s ts (length answers) levels
  answer-is e = rw (targets-follow levels ts (length answers) same in_order) e

  over-is : {after : List ℕ} → after ≡ replaced answers 0 (sweep_positions levels.pins (times_in levels s) ts) → after ≡ sweep_over s ts answers levels
  over-is e = rw (targets-follow levels ts (length answers) same in_order) (e ∙ rw (zero-add (length (sweep_positions levels.pins (times_in levels s) ts))))

pub returns-then-answers-count : goal.returns-then-answers-count
returns-then-answers-count c =
    rw (lengths_differ c.args.self.now.tree.levels c.args.targets.now (length c.args.answers.now) c.if-answers-count.true)
    (record { result_value = refl; answers_after = refl })

pub returns-then-lower-count : goal.returns-then-lower-count
returns-then-lower-count c =
    rw (targets-fall c.args.self.now.tree.levels c.args.targets.now (length c.args.answers.now) (omega arith) (not-ordered c.args.targets.now (omega arith)))
    (record { result_value = ap (refuses 16) c.first_lower-lower.ensures; answers_after = refl })

pub sweep-requires-2 : goal.sweep-requires-2
sweep-requires-2 c = (zero-marks c.args.self.now.tree.levels.ends c.args.self.now.tree.bytes.now 1024, omega arith)

pub returns-in_err-sweep : goal.returns-in_err-sweep
returns-in_err-sweep c =
    let a = c.args in
    let s = a.self.now.tree.bytes.now in
    let levels = a.self.now.tree.levels in
    let same : length a.answers.now ≡ length a.targets.now = omega arith in
    let in_order = is-ordered a.targets.now (omega arith) in
    record {
      result_value = answer-is s a.targets.now a.answers.now levels same in_order (walk-refused _ _ _ c.sweep.ensures.result_value c.in_err-sweep.was c.from_residual.ensures.1);
      answers_after = over-is s a.targets.now a.answers.now levels same in_order c.sweep.ensures.answers_after;
    }

pub returns-then-count-lt-MARKED_TARGETS : goal.returns-then-count-lt-MARKED_TARGETS
returns-then-count-lt-MARKED_TARGETS c =
    let a = c.args in
    let s = a.self.now.tree.bytes.now in
    let levels = a.self.now.tree.levels in
    let same : length a.answers.now ≡ length a.targets.now = omega arith in
    let in_order = is-ordered a.targets.now (omega arith) in
    record {
      result_value = answer-is s a.targets.now a.answers.now levels same in_order (walk-given _ _ c.sweep.ensures.result_value c.in_ok-sweep.was);
      answers_after = over-is s a.targets.now a.answers.now levels same in_order c.sweep.ensures.answers_after;
    }

pub returns-in_err-sweep-2 : goal.returns-in_err-sweep-2
returns-in_err-sweep-2 c =
    let a = c.args in
    let s = a.self.now.tree.bytes.now in
    let levels = a.self.now.tree.levels in
    let same : length a.answers.now ≡ length a.targets.now = omega arith in
    let in_order = is-ordered a.targets.now (omega arith) in
    record {
      result_value = answer-is s a.targets.now a.answers.now levels same in_order (walk-refused _ _ _ c.sweep-2.ensures.result_value c.in_err-sweep-2.was c.from_residual-in_err-sweep-2.ensures.1);
      answers_after = over-is s a.targets.now a.answers.now levels same in_order c.sweep-2.ensures.answers_after;
    }

pub returns : goal.returns
returns c =
    let a = c.args in
    let s = a.self.now.tree.bytes.now in
    let levels = a.self.now.tree.levels in
    let same : length a.answers.now ≡ length a.targets.now = omega arith in
    let in_order = is-ordered a.targets.now (omega arith) in
    record {
      result_value = answer-is s a.targets.now a.answers.now levels same in_order (walk-given _ _ c.sweep-2.ensures.result_value c.in_ok-sweep-2.was);
      answers_after = over-is s a.targets.now a.answers.now levels same in_order c.sweep-2.ensures.answers_after;
    }
