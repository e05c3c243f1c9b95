-- Each turn is one step of `target_from`, and where the walk ends the stretch, which has no pins, starts at its position.
use Rattle.std.proofs.Common.{◌≡◌, suc, ◌+◌, ◌-◌, ◌/◌, ◌≤◌, List, ℕ}
use Rattle.tree.specs.Shape.{stretch}
use Rattle.tree.specs.Times.{times_in}
use Rattle.tree.specs.Walks.{position, target_from, search_answer}
use Rattle.tree.specs.Standing.{Stands}
use Rattle.tree.proofs.tree.Tree.search.Given as goal

-- the stretch ends at the position of the nodes that are left by their left side, the deepest first
abbrev pub invariant-loop-node : goal.invariant-loop-node
invariant-loop-node l =
    let read = times_in l.self.levels l.self.bytes.now in
    let here = stretch l.self.levels.pins l.node.v in
    Stands l.self.levels l.self.bytes.now l.node.v l.node.depth here l.node.above
    × ((kept : List ℕ) × (position l.self.levels.pins kept ≡ here.start + here.pins)
    × (target_from l.self.levels.pins read l.target kept l.node.depth l.node.v ≡ search_answer l.self.levels.pins read l.target))
    × (l.node.v / 2 ≤ l.self.levels.pins)
    × (l.nodes ≡ l.node.depth)

abbrev pub decreases-loop-node : goal.decreases-loop-node
decreases-loop-node l = suc l.self.levels.pins - l.node.v
