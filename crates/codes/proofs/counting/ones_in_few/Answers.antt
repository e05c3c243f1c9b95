use Rattle.std.proofs.Common.{◌≡◌, ◌+◌, ◌*◌, refl, arith}
use Rattle.codes.specs.Bits.{sum}
use Rattle.codes.proofs.Words.{ones-more}
use Rattle.codes.proofs.counting.ones_in_few.Goals as goal

pub loop-i-init : goal.loop-i-init
unfolding sum
loop-i-init c = (omega arith, refl)

pub loop-i-preserved : goal.loop-i-preserved
loop-i-preserved c =
    let i = c.loop-i.i in
    let at = (c.args.first + i * 8) * 8 in
    let e : (i + 1) * 64 ≡ i * 64 + 64 = omega arith in
    let e' : c.args.first * 8 + i * 64 ≡ at = omega arith in
    let more = rw e' at (ones-more c.args.part.bytes.now (c.args.first * 8) (i * 64) 64) in
    rw (e, more) (omega arith, omega (arith, c.ones_word.ensures))
