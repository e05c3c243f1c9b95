-- The root's time is what it stores; the levels below it have their lengths and what each merge promises.
use Rattle.std.proofs.Common.{rules, ℕ, ◌+◌, ◌-◌, ◌≤◌, length, get_or, set, length-set, get_or-set_same, ◌^◌, arith}
use Rattle.tree.specs.Levels.{level_values}
use Rattle.tree.proofs.Heights.{height-le}
use Rattle.tree.proofs.LevelMerges.{grown-root, level-sizes, grown-next, grown-all}
use Rattle.tree.proofs.merging.merge_levels.Goals as goal

pub loop-depth-init : goal.loop-depth-init
loop-depth-init c =
    let values = c.args.values.now in
    let x = get_or values 0 0 in
    let some : 1 ≤ length values = omega arith in
    grown-root values (set c.args.times.now 0 x) some (get_or-set_same c.args.times.now 0 x 0 (omega arith)) (c.type_inv.values 0).fits

pub power_of_two-above-requires : goal.power_of_two-above-requires
power_of_two-above-requires c = omega (arith, height-le (length c.args.values.now) 16 (omega arith))

pub merge_level-requires : goal.merge_level-requires
merge_level-requires c =
    let values = c.args.values.now in
    let d = c.loop-depth.depth in
    let sizes = level-sizes values d (omega arith) (omega arith) in
    let room : 2 ^ d - 1 + length (level_values values d) ≤ length c.loop-depth.times = omega (arith, sizes, c.loop-depth.invariant.kept, length-set {A = ℕ}) in
    rw (c.level_values.ensures, c.power_of_two-above.ensures) (sizes.0, sizes.1, room, sizes.3)

pub loop-depth-preserved : goal.loop-depth-preserved
loop-depth-preserved c =
    let w = rw (c.level_values.ensures, c.power_of_two-above.ensures) at (c.merge_level.ensures (search rules)) in
    grown-next c.args.values.now c.loop-depth.depth (omega arith) (omega arith) _ c.loop-depth.times c.merge_level.new.times c.loop-depth.invariant w

pub returns : goal.returns
returns c = λ e. grown-all c.args.values.now _ c.loop-depth.depth c.loop-depth.times c.loop-depth.invariant (omega arith)
