-- What is counted on from the nearer mark is kept in its place.
use Rattle.std.proofs.Common.{◌∙◌, arith}
use Rattle.codes.proofs.Marks.{marks-kept}
use Rattle.codes.proofs.marking.count_on.Goals as goal

pub returns : goal.returns
returns c =
    let e = c.counted_to-mark.ensures in
    record { counted_2 = (e.0, e.1 ∙ c.nearer.ensures.0, e.2); marks_2 = marks-kept c.args.k c.counted_to-mark.result c.requires.marks (omega arith) e.0 }
