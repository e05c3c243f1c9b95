-- The last that is left is not below the target, or none is left.
use Rattle.std.proofs.Common.{◌-◌, arith, lt-ltb, le-ltb}
use Rattle.tree.specs.Remembering.{ResumesIn}
use Rattle.tree.proofs.Dropping.{left, left-none, left-stays, left-less}
use Rattle.tree.proofs.targets.Progress.resume.Goals.{then-loop-count-test+else-self-count, else-loop-count-test}
use Rattle.tree.proofs.targets.Progress.resume.Goals as goal

pub loop-count-preserved : goal.loop-count-preserved
loop-count-preserved c = record {
  few = omega (arith, c.loop-count.invariant.few);
  drops = λ levels s g. left-less c.loop-count.count c.loop-count.invariant.few (c.loop-count.invariant.drops levels s g) (c.loop-count.count - 1) (omega arith) (omega (arith, c.if-self-count.true));
}

pub returns-then-count-self : goal.returns-then-count-self
returns-then-count-self c = λ levels s g.
    let few = c.loop-count.invariant.few in
    let d = c.loop-count.invariant.drops levels s g in
    let done : ResumesIn levels s c.args.target c.args.self.now (left c.args.self.now c.loop-count.count) = elim c.loop-count-test.branch [
      | then-loop-count-test+else-self-count w ↦ left-stays c.loop-count.count few d (c.loop-count.count - 1) (omega arith) (omega (arith, w.if-self-count.false))
      | else-loop-count-test w ↦ left-none c.loop-count.count few d (omega arith)
    ] in
    rw c.child_of-self.ensures (rw (lt-ltb c.loop-count.count c.args.self.now.count c.if-count-self.true) at done)

pub returns-else-count-self : goal.returns-else-count-self
returns-else-count-self c = λ levels s g.
    let few = c.loop-count.invariant.few in
    let d = c.loop-count.invariant.drops levels s g in
    let done : ResumesIn levels s c.args.target c.args.self.now (left c.args.self.now c.loop-count.count) = elim c.loop-count-test.branch [
      | then-loop-count-test+else-self-count w ↦ left-stays c.loop-count.count few d (c.loop-count.count - 1) (omega arith) (omega (arith, w.if-self-count.false))
      | else-loop-count-test w ↦ left-none c.loop-count.count few d (omega arith)
    ] in
    rw (le-ltb c.loop-count.count c.args.self.now.count c.if-count-self.false) at done
