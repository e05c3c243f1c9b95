-- The part from the first to the last node of the level has as many values as the level has nodes.
use Rattle.std.proofs.Common.{length, le_refl, arith}
use Rattle.tree.specs.Shape.{height}
use Rattle.tree.proofs.Heights.{level-starts, height-le}
use Rattle.tree.proofs.LevelValues.{level-inside}
use Rattle.tree.proofs.building.level_values.Goals as goal

pub power_of_two-first-requires : goal.power_of_two-first-requires
power_of_two-first-requires c = omega (arith, height-le (length c.args.values.now) 63 (omega arith))

pub offset_bounds-values-first : goal.offset_bounds-values-first
offset_bounds-values-first c = omega (arith, level-starts (length c.args.values.now) c.args.depth (omega arith))

pub slice_bounds-result-end : goal.slice_bounds-result-end
slice_bounds-result-end c =
    let n = length c.args.values.now in
    omega (arith, level-inside n c.args.depth (height n) c.requires (le_refl (height n)))
