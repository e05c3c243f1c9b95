-- 1 shifted up by fewer than 64 bits is 2^w, and one less is the mask of the w lowest bits, which leaves the remainder.
use Rattle.std.proofs.Common.{refl, mod-lt, pow_pos}
use Rattle.std.proofs.lemmas.Nat.{one_shl, and_mask}
use Rattle.codes.proofs.reading.low_bits.Goals as goal

pub returns : goal.returns
returns c = rw (one_shl c.args.w 64 c.requires, and_mask c.args.x c.args.w) (mod-lt c.args.x (pow_pos c.args.w), refl)
