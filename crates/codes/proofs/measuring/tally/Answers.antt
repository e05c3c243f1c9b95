use Rattle.std.proofs.Common.{arith}
use Rattle.codes.specs.Measure.{tally}
use Rattle.codes.proofs.Lists.{zeros-at}
use Rattle.codes.proofs.Tallies.{tally-few, tally-next}
use Rattle.codes.proofs.measuring.tally.Goals as goal

pub loop-v-init : goal.loop-v-init
unfolding tally
loop-v-init c = λ z. zeros-at 33 z

pub count-requires : goal.count-requires
count-requires c = λ z. omega (arith, c.loop-v.invariant z, tally-few z c.loop-v.v-index c.args.values.now)

pub loop-v-preserved : goal.loop-v-preserved
loop-v-preserved c =
    let vs = c.args.values.now in
    λ z. omega (arith, c.count.ensures z, c.loop-v.invariant z, tally-next z vs c.loop-v.v-index (omega arith))
