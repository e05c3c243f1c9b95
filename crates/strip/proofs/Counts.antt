-- The strikes at or before a time are those before the next one.
use mathlib.Core.Path.{◌≡◌, refl}
use mathlib.Core.List.{List, [], ◌∷◌}
use Prim.Native.Nat.{ℕ, suc, ◌≤◌}
use native.Mathlib.Decide.{dec_lt}
use native.Mathlib.Omega.{arith}
use lib.ListN.{length, get_or}
use borrow.Author.Tests.{lt-ltb, le-ltb, le-leb, lt-leb}
use Rattle.tree.specs.Lists.{smaller}
use Rattle.strip.specs.Lists.{up_to}

pub smaller-next : (t : ℕ) (xs : List ℕ) → smaller (suc t) xs ≡ up_to t xs
unfolding smaller up_to
smaller-next t [] = refl
smaller-next t (x ∷ xs) = elim (dec_lt x (suc t)) [
  | yes l ↦ rw (lt-ltb x (suc t) l, le-leb x t (omega arith), smaller-next t xs)
  | no n ↦ rw (le-ltb x (suc t) (omega arith), lt-leb x t (omega arith), smaller-next t xs)
]

-- all of them, where none is later
pub up_to-all : (t : ℕ) (xs : List ℕ) → ((i : ℕ) → get_or xs i 0 ≤ t) → up_to t xs ≡ length xs
unfolding up_to
up_to-all t [] h = refl
up_to-all t (x ∷ xs) h = rw (le-leb x t (h 0)) (omega (arith, up_to-all t xs (λ i. h (suc i))))
