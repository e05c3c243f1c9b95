-- No time up to position i - 1 is near, so the first near one is that of the times from i - 1 on; from the last time on there is none.
use Rattle.std.proofs.Common.{◌≡◌, ◌+◌, ◌-◌, ◌≤◌, max, drop}
use Rattle.strip.specs.Read.{first_near}
use Rattle.strip.proofs.lists.near_from_start.Given as goal

abbrev pub invariant-loop-i : goal.invariant-loop-i
invariant-loop-i l = (l.i ≤ max l.i-end 1) × (first_near l.r l.times ≡ l.i - 1 + first_near l.r (drop (l.i - 1) l.times))
