-- A sweep is refused by 15, then 16.
use mathlib.Core.Path.{◌≡◌}
use mathlib.Core.Bool.{true, false}
use mathlib.Core.List.{List}
use Prim.Native.Nat.{ℕ}
use lib.ListN.{length}
use borrow.Author.Tests.{eq-eqb, ne_eqb}
use Rattle.tree.specs.Lists.{ordered}
use Rattle.tree.specs.Outcomes.{gives, refuses, test, verdict}
use Rattle.strip.specs.Lists.{first_lower}
use Rattle.strip.specs.Calls.{sweep_tests}

module _ {A : Type 0} (a : A) (ts : List ℕ) (room : ℕ) where
  pub lengths_differ : (room ≡ length ts → ⊥) → verdict (sweep_tests ts room) a ≡ refuses 15 0
  unfolding verdict test
  lengths_differ d = rw (ne_eqb room (length ts) d)

  pub targets-fall : room ≡ length ts → ordered ts ≡ false → verdict (sweep_tests ts room) a ≡ refuses 16 (first_lower ts)
  unfolding verdict test
  targets-fall e o = rw (eq-eqb room (length ts) e, o)

  pub targets-follow : room ≡ length ts → ordered ts ≡ true → verdict (sweep_tests ts room) a ≡ gives a
  unfolding verdict test
  targets-follow e o = rw (eq-eqb room (length ts) e, o)
