-- Each call goes one level down.
use Rattle.tree.proofs.shape.+rank_under.Given as goal

abbrev pub decreases-rank_under : goal.decreases-rank_under
decreases-rank_under l = l.depth
