-- What the target goes on with is the same, if no more than `count` stay remembered.
use Rattle.std.proofs.Common.{ℕ, List, ◌≤◌}
use Rattle.tree.specs.declared.nodes.Levels.{Levels}
use Rattle.tree.specs.Remembering.{GoesOn}
use Rattle.tree.proofs.Dropping.{DropsTo, left}
use Rattle.tree.proofs.targets.Progress.resume.Given as goal

abbrev pub invariant-loop-count : goal.invariant-loop-count
invariant-loop-count l = record {
  few : l.count ≤ l.self.count;
  drops : (levels : Levels) (s : List ℕ) → GoesOn levels s l.self → DropsTo levels s l.target l.self (left l.self l.count);
}

abbrev pub decreases-loop-count : goal.decreases-loop-count
decreases-loop-count l = l.count
