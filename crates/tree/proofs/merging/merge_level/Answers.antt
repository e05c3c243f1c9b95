-- With the entries behind all nodes moved up, the pairs of children are merged, after the last left child where it has no sibling.
use Rattle.std.proofs.Common.{rules, ◌≡◌, suc, ◌-◌, ◌*◌, ◌/◌, length, refl, arith}
use Rattle.tree.specs.Merged.{MergedFrom}
use Rattle.tree.proofs.merging.merge_level.Goals.{then-count-eq1+in_ok-merge_left, else-count-eq1}
use Rattle.tree.proofs.merging.merge_level.Goals as goal

pub returns : goal.returns
returns c =
    let xs = c.args.stored.now in
    let p = c.requires in
    let start = c.move_up.ensures xs refl in
    let pairs : MergedFrom c.args.times.now xs c.args.above (2 * (length xs / 2)) c.if-count-eq1.times = elim c.if-count-eq1.branch [
      | then-count-eq1+in_ok-merge_left w ↦
          let last : length xs ≡ suc (length xs - 1) = omega arith in
          let whole : length xs - 1 ≡ 2 * (length xs / 2) = omega arith in
          rw w.times-is (rw whole at (w.merge_left.ensures (search rules) c.args.times.now c.args.above p.3 p.1 p.2 (rw last at start)))
      | else-count-eq1 w ↦
          let whole : length xs ≡ 2 * (length xs / 2) = omega arith in
          rw w.times-is (rw whole at start)
    ] in
    λ e. c.merge_pairs.ensures e c.args.times.now c.args.above p.3 p.1 p.2 pairs
