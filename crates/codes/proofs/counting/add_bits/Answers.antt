-- In each place the parity of three bits is the low bit of their sum and the carry its high bit (`ones-added`).
use Rattle.std.proofs.Common.{arith}
use Rattle.codes.proofs.Streams.{ones-added}
use Rattle.codes.proofs.counting.add_bits.Goals as goal

pub returns : goal.returns
returns c = ones-added 64 c.args.a c.args.b c.args.c (omega arith) (omega arith) (omega arith)
