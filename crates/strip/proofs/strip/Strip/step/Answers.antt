-- Opening decides: where it refuses, the position stays; else the open strip gives the step.
use mathlib.Core.Path.{refl}
use Rattle.strip.specs.Calls.{step_of, next_of}
use Rattle.strip.proofs.Openings.{opening-is}
use Rattle.strip.proofs.strip.Strip.step.Goals as goal

pub returns-in-Ok : goal.returns-in-Ok
unfolding step_of next_of
returns-in-Ok c = rw (opening-is c.args.s.now _ c.opening_of.ensures.result_value c.in-Ok.is) (rw c.in-Ok.ensures.bytes_value at c.step.ensures)

pub returns-in-Err : goal.returns-in-Err
unfolding step_of next_of
returns-in-Err c =
    rw (opening-is c.args.s.now _ c.opening_of.ensures.result_value c.in-Err.is)
    (record { step_value = refl; next_value = refl })
