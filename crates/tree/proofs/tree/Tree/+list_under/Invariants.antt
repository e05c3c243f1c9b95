-- A side of a stretch has fewer pins.
use Rattle.tree.proofs.tree.Tree.+list_under.Given as goal

abbrev pub decreases-list_under : goal.decreases-list_under
decreases-list_under l = l.here.pins
