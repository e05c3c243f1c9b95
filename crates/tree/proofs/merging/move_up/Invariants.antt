-- The entries from i on are moved up; those below are as they were.
use Rattle.std.proofs.Common.{ℕ, ◌≡◌, ◌+◌, ◌≤◌, ◌<◌, get_or}
use Rattle.tree.proofs.merging.move_up.Given as goal

abbrev pub invariant-loop-i : goal.invariant-loop-i
invariant-loop-i l = record {
  least : l.count ≤ l.i + 1;
  most : l.i ≤ l.above;
  moved : (r : ℕ) → l.i ≤ r → r < l.above → get_or l.times (r + l.count) 0 ≡ get_or l.initial.times r 0;
  unmoved : (k : ℕ) → k < l.i + l.count → get_or l.times k 0 ≡ get_or l.initial.times k 0;
}
