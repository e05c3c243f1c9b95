-- The two words have what two streams have in one turn, and `add_bits` adds their ones to those of `a`.
use Rattle.codes.proofs.Streams.{two-words}
use Rattle.std.proofs.Common.{arith}
use Rattle.codes.proofs.counting.add_two.Goals as goal

pub returns : goal.returns
returns c = omega (arith, two-words c.args.part.bytes.now c.args.first c.args.step, c.add_bits.ensures, c.ones_word-2.ensures, c.ones_word.ensures)
