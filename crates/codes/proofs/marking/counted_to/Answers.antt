-- The ones up to where the mark ends and those that are counted from there on are those up to `to`.
use Rattle.std.proofs.Common.{refl, arith}
use Rattle.codes.proofs.Marks.{counted-few, counted-on}
use Rattle.codes.proofs.marking.counted_to.Goals as goal

pub overflow_add-result : goal.overflow_add-result
overflow_add-result c = omega (arith, counted-few c.args.part.bytes.now c.args.known c.requires.0)

pub returns : goal.returns
returns c = (counted-on c.args.part.bytes.now c.args.known c.args.to _ c.requires.0 c.requires.1 c.count_ones.ensures.1, refl, refl)
