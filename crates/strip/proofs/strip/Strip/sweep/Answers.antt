-- Opening decides: where it refuses, nothing is written; else the sweep of the open strip answers and writes.
use mathlib.Core.Path.{refl}
use Rattle.strip.specs.Calls.{sweep_of, sweep_output}
use Rattle.strip.proofs.Exits.{handed-up}
use Rattle.strip.proofs.Openings.{opening-is}
use Rattle.strip.proofs.strip.Strip.sweep.Goals as goal

pub returns-in_err-strip : goal.returns-in_err-strip
unfolding sweep_of sweep_output
returns-in_err-strip c =
    rw (opening-is c.args.s.now _ c.opening_of.ensures.result_value c.in_err-strip.was)
    (record { result_value = handed-up _ _ c.from_residual.ensures.1; answers_after = refl })

pub returns : goal.returns
unfolding sweep_of sweep_output
returns c = rw (opening-is c.args.s.now _ c.opening_of.ensures.result_value c.in_ok-strip.was) (rw c.in_ok-strip.ensures.bytes_value at c.sweep.ensures)
