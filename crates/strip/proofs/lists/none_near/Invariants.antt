-- While `any` is false no time up to position i - 1 is near; if it is false at the end, none is.
use Rattle.std.proofs.Common.{◌≡◌, ◌+◌, ◌-◌, ◌≤◌, max, drop, false}
use Rattle.strip.specs.Read.{first_near}
use Rattle.strip.proofs.lists.none_near.Given as goal

abbrev pub invariant-loop-i : goal.invariant-loop-i
invariant-loop-i l = (l.i ≤ max l.i-end 1) × (l.any ≡ false → first_near l.r l.times ≡ l.i - 1 + first_near l.r (drop (l.i - 1) l.times))
