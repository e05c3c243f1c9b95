-- Before each turn the listing up to position i is written, and the piece that is written next has the lines from there on.
use mathlib.Core.Path.{◌≡◌}
use Prim.Native.Nat.{◌-◌, ◌≤◌}
use lib.ListN.{length}
use Rattle.strip.specs.Calls.{plain_list}
use Rattle.pinlist.proofs.Listings.{listed}
use Rattle.pinlist.proofs.print_list.Given as goal

abbrev pub invariant-loop-i : goal.invariant-loop-i
invariant-loop-i l = (l.i ≤ l.n) × (length l.text ≡ 65536) × (l.done ≡ length (listed (plain_list l.s) l.i))

abbrev pub decreases-loop-i : goal.decreases-loop-i
decreases-loop-i l = l.n - l.i
