-- The kind decides, as in `kind_decoded`; by what `kind_of` tells a width is at most 32 and a chunk has 1 to 8 bits, as the decoders ask.
use Rattle.std.proofs.Common.{sym, refl, arith}
use Rattle.codes.specs.Decode.{kind_decoded}
use Rattle.codes.proofs.CodeByte.{kind-told}
use Rattle.codes.proofs.decoding.decode_kind.Goals as goal

pub decode_fixed-requires : goal.decode_fixed-requires
decode_fixed-requires c = omega (arith, (kind-told _ _ (sym c.in-Fixed.ensures)).0)

pub of-requires : goal.of-requires
of-requires c = let h = kind-told _ _ (sym c.in-Chunked.ensures) in (h.0, h.1)

pub returns-in-Chunked : goal.returns-in-Chunked
unfolding kind_decoded
returns-in-Chunked c = rw (← c.in-Chunked.ensures, ← c.of.ensures) c.decode_layers.ensures

pub returns-in-Refused : goal.returns-in-Refused
unfolding kind_decoded
returns-in-Refused c = rw (← c.in-Refused.ensures) refl
