-- Each turn opens the node where the target stands and comes to the child that the comparison tells; the target answers as before.
-- The marks stay true.
use Rattle.std.proofs.Common.{suc, ◌-◌}
use Rattle.tree.specs.declared.targets.Progress.{Progress}
use Rattle.tree.specs.Shape.{stretch}
use Rattle.tree.specs.LevelMarks.{LevelMarks}
use Rattle.tree.specs.Standing.{Stands}
use Rattle.tree.specs.Remembering.{Comes}
use Rattle.tree.proofs.tree.Tree.go_down.Given as goal

abbrev pub invariant-loop-node : goal.invariant-loop-node
invariant-loop-node l =
    let here : Progress = record { kept = l.progress.kept; count = l.count; v = l.node.v; above = l.node.above; opened = l.opened } in
    record {
      comes : Comes l.self.levels l.self.bytes.now l.target l.fn.progress here;
      stands : Stands l.self.levels l.self.bytes.now l.node.v l.node.depth (stretch l.self.levels.pins l.node.v) l.node.above;
      marks : LevelMarks l.self.levels.ends l.self.bytes.now l.marks;
    }

abbrev pub decreases-loop-node : goal.decreases-loop-node
decreases-loop-node l = suc l.n - l.node.v
