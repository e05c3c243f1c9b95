-- The fetch, counted from the first node of the level, is the node's, and `time_under` has the time by what it finds. The level's marks
-- are renewed, the others' as they were.
use Rattle.std.proofs.Common.{length, sym, ap, ◌∙◌, arith}
use Rattle.codes.specs.Fetch.{found}
use Rattle.tree.specs.Outcomes.{gives}
use Rattle.tree.specs.Times.{under}
use Rattle.tree.proofs.Heights.{height-above}
use Rattle.tree.proofs.LevelMarks.{marks-room, marks-lent, marks-back}
use Rattle.tree.proofs.NodeFetches.{found-at, level-fits, index_below, node-inside}
use Rattle.tree.proofs.tree.Tree.open_full.Goals as goal

pub bounds-self-depth : goal.bounds-self-depth
bounds-self-depth c = (level-fits c.args.self.now.fits c.requires.low c.requires.among).deep

pub count_of-count-requires : goal.count_of-count-requires
count_of-count-requires c = height-above c.args.self.now.levels.pins c.args.depth (omega arith)

pub power_of_two-requires : goal.power_of_two-requires
power_of_two-requires c = omega (arith, (level-fits c.args.self.now.fits c.requires.low c.requires.among).deep)

pub part-requires : goal.part-requires
part-requires c = height-above c.args.self.now.levels.pins c.args.depth (omega arith)

pub overflow_mul-from : goal.overflow_mul-from
overflow_mul-from c = omega (arith, marks-room c.args.depth (length c.args.marks.now) (level-fits c.args.self.now.fits c.requires.low c.requires.among).deep)

pub overflow_add-lent : goal.overflow_add-lent
overflow_add-lent c = omega (arith, marks-room c.args.depth (length c.args.marks.now) (level-fits c.args.self.now.fits c.requires.low c.requires.among).deep)

pub offset_bounds-marks-from : goal.offset_bounds-marks-from
offset_bounds-marks-from c =
    omega (arith, marks-room c.args.depth (length c.args.marks.now) (level-fits c.args.self.now.fits c.requires.low c.requires.among).deep)

pub slice_bounds-lent-end : goal.slice_bounds-lent-end
slice_bounds-lent-end c = omega (arith, marks-room c.args.depth (length c.args.marks.now) (level-fits c.args.self.now.fits c.requires.low c.requires.among).deep)

pub fetch-requires : goal.fetch-requires
fetch-requires c =
    let level = level-fits c.args.self.now.fits c.requires.low c.requires.among in
    let below = index_below c.args.self.now.levels.pins c.args.depth c.args.v _ c.power_of_two.ensures c.requires.low c.requires.high c.requires.among in
    rw (c.part.ensures, c.count_of-count.ensures.1) (
      below,
      marks-lent c.requires.marks c.args.depth level.deep,
      node-inside level _ below,
    )

pub returns-in-Some : goal.returns-in-Some
returns-in-Some c =
    let tree = c.args.self.now in
    let v = c.args.v in
    let d = c.args.depth in
    let node = found-at tree.levels tree.bytes.now d v c.power_of_two.ensures c.requires.low c.requires.high c.count_of-count.ensures.1 c.part.ensures c.fetch.ensures.result_value in
    record {
      time = c.time_under.ensures ∙ ap (under v (gives c.args.above)) (sym (node ∙ ap found c.in-Some.is));
      marks = marks-back c.requires.marks d (level-fits tree.fits c.requires.low c.requires.among).deep c.fetch.new.marks c.fetch.auto.marks
          (rw c.part.ensures at c.fetch.ensures.marks);
    }

pub returns-in-None : goal.returns-in-None
returns-in-None c =
    let tree = c.args.self.now in
    let v = c.args.v in
    let d = c.args.depth in
    let node = found-at tree.levels tree.bytes.now d v c.power_of_two.ensures c.requires.low c.requires.high c.count_of-count.ensures.1 c.part.ensures c.fetch.ensures.result_value in
    record {
      time = ap (under v (gives c.args.above)) (sym (node ∙ ap found c.in-None.is));
      marks = marks-back c.requires.marks d (level-fits tree.fits c.requires.low c.requires.among).deep c.fetch.new.marks c.fetch.auto.marks
          (rw c.part.ensures at c.fetch.ensures.marks);
    }
