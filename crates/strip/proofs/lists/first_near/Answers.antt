-- A gap of 0 is near where the time is lower than the one before (`lower-near`); any other gap is as `near_or_end` finds it.
use mathlib.Core.Path.{◌∙◌}
use Rattle.strip.proofs.Gaps.{lower-near}
use Rattle.strip.proofs.lists.first_near.Goals as goal

pub returns-then-r-eq0 : goal.returns-then-r-eq0
returns-then-r-eq0 c = rw c.if-r-eq0.true (c.first_lower.ensures ∙ lower-near c.args.times.now)
