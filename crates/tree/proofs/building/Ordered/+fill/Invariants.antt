-- A side of a stretch has fewer pins.
use Rattle.tree.proofs.building.Ordered.+fill.Given as goal

abbrev pub decreases-fill : goal.decreases-fill
decreases-fill l = l.here.pins
