-- The ones of the number that `read` gives are those of its bits (`ones-part`); of no bits there are none.
use Rattle.std.proofs.Common.{refl, ap, ◌∙◌, arith}
use lib.Count.{ones}
use Rattle.codes.specs.Bits.{sum}
use Rattle.codes.proofs.Words.{ones-part, sum-part-le}
use Rattle.codes.proofs.counting.ones_at.Goals as goal

pub returns-then-w-eq0 : goal.returns-then-w-eq0
unfolding sum
returns-then-w-eq0 c = rw c.if-w-eq0.true (omega arith, refl)

pub returns : goal.returns
returns c =
    let e = c.ones_of.ensures.1 ∙ ap ones c.read.ensures.1 ∙ ones-part c.args.part.now c.args.at c.args.w in
    (omega (arith, sum-part-le c.args.part.now c.args.at c.args.w), e)
