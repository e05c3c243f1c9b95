use Rattle.std.proofs.Common.{◌*◌, ◌^◌, ◌<◌, take, refl, ap, ◌∙◌, zero-add, arith, take_all, pow_mono}
use Rattle.codes.specs.Bits.{number, bits_of}
use Rattle.codes.proofs.Bits.{length-fixed}
use Rattle.codes.proofs.Words.{number-next, part-lt}
use Rattle.codes.proofs.reading.short_word.Goals as goal

pub loop-b-init : goal.loop-b-init
unfolding number
loop-b-init c = (omega arith, refl)

pub loop-b-preserved : goal.loop-b-preserved
loop-b-preserved c =
    let bytes = c.args.part.now in
    let i = c.loop-b.b-index in
    let next = rw zero-add at (number-next bytes 0 i) in
    let lt : number (take (i * 8) (bits_of bytes)) < 2 ^ (i * 8) = part-lt bytes 0 (i * 8) in
    let small : number (take (i * 8) (bits_of bytes)) < 2 ^ 48 = omega (arith, pow_mono {i = i * 8} {j = 48} (omega arith)) in
    (omega arith, rw (next (omega arith) (omega arith)) (omega (arith, c.from.ensures)))

pub returns : goal.returns
returns c =
    let bytes = c.args.part.now in
    c.loop-b.invariant.1 ∙ ap number (take_all (c.loop-b.b-index * 8) (bits_of bytes) (rw (length-fixed 8 bytes) (omega arith)))
