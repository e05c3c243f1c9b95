-- The power is 2^b, and one less is the mask of the b lowest bits, which leaves the remainder.
use Rattle.std.proofs.lemmas.Nat.{and_mask}
use Rattle.codes.proofs.layering.Radix.chunk.Goals as goal

pub returns : goal.returns
returns c = rw (c.from.ensures, c.args.self.scale) (and_mask c.args.v c.args.self.bits)
