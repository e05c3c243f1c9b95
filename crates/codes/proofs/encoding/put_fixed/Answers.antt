use Rattle.std.proofs.Common.{◌+◌, ◌≤◌, length, get_or, mul-le-mul_right, arith}
use Rattle.codes.specs.Bits.{fixed}
use Rattle.codes.proofs.Bits.{bits-mod}
use Rattle.codes.proofs.BitsWritten.{wrote_nothing, wrote-both}
use Rattle.codes.proofs.LayersWritten.{fixed-suc, length-fixed-take}
use Rattle.codes.proofs.encoding.put_fixed.Goals as goal

pub loop-v-init : goal.loop-v-init
unfolding fixed
loop-v-init c = wrote_nothing c.args.out.now c.args.writer

pub put-p-requires-clause-w_in_bounds : goal.put-p-requires-clause-w_in_bounds
put-p-requires-clause-w_in_bounds c =
    let w = c.loop-v.invariant in
    let t : c.loop-v.v-index + 1 ≤ length c.args.values.now = omega arith in
    omega (arith, length-fixed-take c.args.w c.args.values.now c.loop-v.v-index (omega arith), mul-le-mul_right c.args.w t)

pub loop-v-preserved : goal.loop-v-preserved
loop-v-preserved c =
    let x = get_or c.args.values.now c.loop-v.v-index 0 in
    let b = rw (c.low_bits.ensures.1, c.from.ensures, bits-mod c.args.w x) at c.put-p.ensures in
    rw (fixed-suc c.args.w c.args.values.now c.loop-v.v-index (omega arith)) (wrote-both c.loop-v.invariant b)
