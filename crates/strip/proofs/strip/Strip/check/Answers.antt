-- Opening decides: where it refuses, so does the call; else the call on the open strip has the answer.
use mathlib.Core.Path.{◌∙◌}
use Rattle.strip.specs.Calls.{check_of}
use Rattle.strip.proofs.Openings.{opening-refused, opening-given}
use Rattle.strip.proofs.strip.Strip.check.Goals as goal

pub returns-in_err-strip : goal.returns-in_err-strip
unfolding check_of
returns-in_err-strip c = opening-refused _ _ _ c.opening_of.ensures.result_value _ _ c.in_err-strip.was c.from_residual.ensures.1

pub returns : goal.returns
unfolding check_of
returns c = rw c.in_ok-strip.ensures.bytes_value at c.check.ensures ∙ opening-given _ _ _ c.opening_of.ensures.result_value _ c.in_ok-strip.was
