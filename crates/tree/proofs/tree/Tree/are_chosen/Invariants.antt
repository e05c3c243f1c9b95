-- Each level is compared by itself; the first that is another decides.
use Rattle.std.proofs.Common.{◌≡◌, true}
use Rattle.tree.specs.Chosen.{chosen_to}
use Rattle.tree.proofs.tree.Tree.are_chosen.Given as goal

abbrev pub invariant-loop-d : goal.invariant-loop-d
invariant-loop-d l = chosen_to l.self.levels l.self.bytes.now l.d ≡ true
