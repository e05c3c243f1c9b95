-- Opening decides: where it refuses, so does the call; else the call on the open strip has the answer.
use mathlib.Core.Path.{◌∙◌}
use Rattle.strip.specs.Calls.{repeat_of}
use Rattle.strip.proofs.Openings.{opening-refused, opening-given}
use Rattle.strip.proofs.strip.Strip.repeat.Goals as goal

pub returns-in_err-strip : goal.returns-in_err-strip
unfolding repeat_of
returns-in_err-strip c = opening-refused _ _ _ c.opening_of.ensures.result_value _ _ c.in_err-strip.was c.from_residual.ensures.1

pub returns : goal.returns
unfolding repeat_of
returns c = rw c.in_ok-strip.ensures.bytes_value at c.repeat.ensures ∙ opening-given _ _ _ c.opening_of.ensures.result_value _ c.in_ok-strip.was
