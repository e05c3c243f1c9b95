-- The turns from the last pair to the first merge one pair each, and merges go one after the other.
use Rattle.std.proofs.Common.{◌*◌}
use Rattle.tree.specs.Merged.{Merges}
use Rattle.tree.proofs.merging.merge_pairs.Given as goal

abbrev pub invariant-loop-q : goal.invariant-loop-q
invariant-loop-q l = Merges l.stored (2 * l.pairs) (2 * l.q) l.initial.times l.times
