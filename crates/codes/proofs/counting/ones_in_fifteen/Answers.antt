-- Each of the eleven additions keeps the weighted count of ones, so the four words left, by 1, 2, 4 and 8, have those of all fifteen.
use Rattle.std.proofs.Common.{arith}
use Rattle.codes.proofs.Streams.{fifteen-words}
use Rattle.codes.proofs.counting.ones_in_fifteen.Goals as goal

pub returns : goal.returns
returns c =
    omega (
      arith,
      fifteen-words c.args.part.bytes.now c.args.first c.args.step,
      c.ones_of-4.ensures,
      c.ones_of-3.ensures,
      c.ones_of-2.ensures,
      c.ones_of.ensures,
      c.add_bits-fours.ensures,
      c.add_bits-r.ensures,
      c.add_bits-q.ensures,
      c.add_bits-p.ensures,
      c.add_two-g.ensures,
      c.add_two-f.ensures,
      c.add_two-e.ensures,
      c.add_two-d.ensures,
      c.add_two-c.ensures,
      c.add_two-b.ensures,
      c.add_two-a.ensures,
      c.ones_word.ensures,
    )
