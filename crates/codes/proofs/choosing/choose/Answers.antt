-- The fixed code wins where no chunked code has fewer bits.
use Rattle.std.proofs.Common.{refl, arith}
use Rattle.codes.specs.Choice.{chosen}
use Rattle.codes.proofs.Tallies.{measured-le}
use Rattle.codes.proofs.choosing.choose.Goals as goal

pub invariant_of-widths : goal.invariant_of-widths
invariant_of-widths c = record { few = omega arith; parts = measured-le c.args.values.now c.measure.result (omega arith) c.measure.ensures }

pub returns : goal.returns
unfolding chosen
returns c =
    let vs = c.args.values.now in
    rw (c.better.ensures, c.fixed.ensures vs c.measure.ensures refl, c.best_chunked.ensures vs c.measure.ensures refl)
