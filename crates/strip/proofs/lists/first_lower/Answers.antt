-- A time is lower than the one before where it is before that plus 0 (`lower-near`).
use mathlib.Core.Path.{sym, ◌∙◌}
use Rattle.strip.proofs.Gaps.{lower-near}
use Rattle.strip.proofs.lists.first_lower.Goals as goal

pub returns : goal.returns
returns c = c.near_or_end.ensures ∙ sym (lower-near c.args.times.now)
