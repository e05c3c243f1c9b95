-- The nodes opened are the first digits of the goal, one digit more each, which are the nodes from the root down to it.
use Rattle.std.proofs.Common.{◌≡◌, ◌-◌, ◌/◌, ◌^◌}
use Rattle.tree.specs.Shape.{height}
use Rattle.tree.specs.Outcomes.{gives, known}
use Rattle.tree.specs.Times.{times_in}
use Rattle.tree.specs.Walks.{found, met, access_answer}
use Rattle.tree.proofs.Paths.{down_to}
use Rattle.tree.proofs.tree.Tree.access.Given as goal

-- the nodes that are left are those from the root to `goal` on the levels below; the time is that of the last one opened
abbrev pub invariant-loop-depth : goal.invariant-loop-depth
invariant-loop-depth l =
    let read = times_in l.self.levels l.self.bytes.now in
    let below = height l.goal - l.depth in
    (l.opened ≡ l.depth)
    × (read (l.goal / 2 ^ below) ≡ gives l.above)
    × (met read (down_to l.goal below) (found (known (read l.goal)) (height l.goal)) ≡ access_answer l.self.levels.pins read l.i)
