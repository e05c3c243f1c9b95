use Rattle.std.proofs.Common.{◌≡◌, ℕ, ◌+◌, ◌<◌, Result, List, [], ◌∷◌, length, get_or, drop, refl, sym, ap, subst, ◌∙◌, arith}
use Rattle.std.proofs.lemmas.Result.{err_from_is_err_and}
use native.Mathlib.Nat.{zero-add, add-zero}
use native.Mathlib.Numerals.{add-one}
use lib.ListN.{drop_of_length-le}
use lib.Seq.{drop-cons}
use Rattle.codes.specs.Lists.{replaced}
use Rattle.codes.proofs.Promises.{list-laws}
use Rattle.tree.specs.declared.nodes.Refusal.{Refusal}
use Rattle.tree.specs.Outcomes.{gives, verdict}
use Rattle.tree.specs.Walks.{met}
use Rattle.tree.specs.Sweeps.{legs_from, opened, positions}
use Rattle.tree.specs.Remembering.{entries, Leaves}
use Rattle.tree.proofs.NodeFetches.{pins-bound}
use Rattle.tree.proofs.Remembering.{goes-root, remembers}
use Rattle.tree.proofs.Dropping.{sweep-stopped, sweep-next}
use Rattle.tree.proofs.tree.Tree.sweep.Goals as goal

-- the targets that are left, the next one first
next-first : (ts : List ℕ) (i : ℕ) → i < length ts → drop i ts ≡ get_or ts i 0 ∷ drop (i + 1) ts
next-first ts i h = rw (add-one i) (drop-cons ts i 0 h)

pub loop-i-init : goal.loop-i-init
unfolding entries
loop-i-init c = record { goes = goes-root c.args.self.now.levels c.args.self.now.bytes.now refl; answer = rw zero-add; positions = refl; marks = c.requires.0 }

pub resume-requires : goal.resume-requires
resume-requires c = remembers c.loop-i.invariant.goes c.args.self.now.fits

pub returns-in_err-go_down : goal.returns-in_err-go_down
returns-in_err-go_down c =
    let tree = c.args.self.now in
    let l = c.loop-i in
    let ts = c.args.targets.now in
    let first = next-first ts l.i c.loop-i-test.true in
    let goes = c.resume.ensures tree.levels tree.bytes.now l.invariant.goes in
    let stops = subst (λ (r : Result (Unit {0}) Refusal). Leaves tree.levels tree.bytes.now (get_or ts l.i 0) c.resume.new.self c.go_down.new.progress r) c.in_err-go_down.was
    c.go_down.ensures.leaves in
    let d = sweep-stopped goes (drop (l.i + 1) ts) stops in
    let p = err_from_is_err_and c.from_residual.result c.from_residual.ensures.1 in
    rw (p.1, p.2) (record {
      result_value = sym (l.invariant.answer ∙ rw first d.0);
      answers_after = sym (l.invariant.positions ∙ rw first (ap (replaced l.answers l.i) d.1) ∙ list-laws.replaced_none l.answers l.i);
      level_marks = c.go_down.ensures.level_marks_2;
    })

pub missing_at-requires : goal.missing_at-requires
missing_at-requires c =
    let tree = c.args.self.now in
    let left = subst (λ (r : Result (Unit {0}) Refusal). Leaves tree.levels tree.bytes.now (get_or c.args.targets.now c.loop-i.i 0) c.resume.new.self c.go_down.new.progress r)
    c.in_ok-go_down.was c.go_down.ensures.leaves in
    (left.1, left.0.goes.place.child, omega (arith, pins-bound tree.levels tree.bytes.now tree.fits))

pub overflow_cast-answers : goal.overflow_cast-answers
overflow_cast-answers c =
    let tree = c.args.self.now in
    let left = subst (λ (r : Result (Unit {0}) Refusal). Leaves tree.levels tree.bytes.now (get_or c.args.targets.now c.loop-i.i 0) c.resume.new.self c.go_down.new.progress r)
    c.in_ok-go_down.was c.go_down.ensures.leaves in
    omega (arith, c.missing_at.ensures, left.0.goes.place.stands.inside, pins-bound tree.levels tree.bytes.now tree.fits)

pub loop-i-preserved : goal.loop-i-preserved
loop-i-preserved c =
    let tree = c.args.self.now in
    let l = c.loop-i in
    let ts = c.args.targets.now in
    let first = next-first ts l.i c.loop-i-test.true in
    let goes = c.resume.ensures tree.levels tree.bytes.now l.invariant.goes in
    let left = subst (λ (r : Result (Unit {0}) Refusal). Leaves tree.levels tree.bytes.now (get_or ts l.i 0) c.resume.new.self c.go_down.new.progress r) c.in_ok-go_down.was
    c.go_down.ensures.leaves in
    let d = sweep-next goes (drop (l.i + 1) ts) left.0 left.1 in
    let room : l.i < length l.answers = omega (arith, c.loop-i.auto.answers, c.loop-i-test.true, c.requires.1) in
    rw c.missing_at.ensures (record {
      goes = left.0.goes;
      answer = l.invariant.answer ∙ rw first d.0;
      positions = l.invariant.positions ∙ rw first (ap (replaced l.answers l.i) d.1) ∙ sym (list-laws.replaced_next l.answers l.i _ _ room);
      marks = c.go_down.ensures.level_marks_2;
    })

pub returns : goal.returns
unfolding legs_from opened positions met verdict
returns c =
    let l = c.loop-i in
    let d : drop l.i c.args.targets.now ≡ [] = drop_of_length-le c.args.targets.now {i = l.i} (omega arith) in
    record {
      result_value = sym (l.invariant.answer ∙ rw d (ap gives (add-zero l.progress.opened)));
      answers_after = sym (l.invariant.positions ∙ rw d (list-laws.replaced_none l.answers l.i));
      level_marks = l.invariant.marks;
    }
