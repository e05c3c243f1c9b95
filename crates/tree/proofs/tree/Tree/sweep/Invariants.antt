-- What is written and what is left to do are together the definition's sweep, in each turn by one target more.
use Rattle.std.proofs.Common.{◌≡◌, drop}
use Rattle.codes.specs.Lists.{replaced}
use Rattle.tree.specs.LevelMarks.{LevelMarks}
use Rattle.tree.specs.Times.{times_in}
use Rattle.tree.specs.Sweeps.{sweep_answer, sweep_positions}
use Rattle.tree.specs.Remembering.{GoesOn}
use Rattle.tree.proofs.Dropping.{sweep_on, positions_on}
use Rattle.tree.proofs.tree.Tree.sweep.Given as goal

abbrev pub invariant-loop-i : goal.invariant-loop-i
invariant-loop-i l =
    let n = l.self.levels.pins in
    let s = l.self.bytes.now in
    let left = drop l.i l.targets in
    record {
      goes : GoesOn l.self.levels s l.progress;
      answer : sweep_answer n (times_in l.self.levels s) l.targets ≡ sweep_on l.self.levels s l.progress left;
      positions : replaced l.initial.answers 0 (sweep_positions n (times_in l.self.levels s) l.targets) ≡ replaced l.answers l.i (positions_on l.self.levels s l.progress left);
      marks : LevelMarks l.self.levels.ends s l.marks;
    }
