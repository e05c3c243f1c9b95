-- The root stores its time, and each turn puts one more level between the entries of those above it.
use Rattle.tree.proofs.LevelMerges.{Grown}
use Rattle.tree.proofs.merging.merge_levels.Given as goal

abbrev pub invariant-loop-depth : goal.invariant-loop-depth
invariant-loop-depth l = Grown l.values l.initial.times l.depth l.times
