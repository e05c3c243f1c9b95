-- A 32-bit value has at most 32 leading zeros, so they tell one of the 33 entries, the one whose tally the value adds to.
use Rattle.std.proofs.Common.{arith}
use lib.Count.{count_leading_zeros}
use Rattle.codes.proofs.Tallies.{counted-more}
use Rattle.codes.proofs.Widths.{width-zeros}
use Rattle.codes.proofs.measuring.count.Goals as goal

pub returns : goal.returns
returns c =
    let z = count_leading_zeros 32 c.args.v in
    let w = width-zeros 32 c.args.v in
    λ t. counted-more c.args.counts.now c.args.v z t (omega arith) (omega arith)
