-- The first test that holds decides; where none holds the value is given.
use mathlib.Core.Path.{◌≡◌, refl, sym}
use mathlib.Core.Bool.{Bool, true, false}
use mathlib.Core.List.{List, ◌∷◌}
use Prim.Native.Nat.{ℕ}
use Rattle.tree.specs.Outcomes.{gives, refuses, Test, test, verdict}
use Rattle.tree.proofs.Promises.{outcome-laws}

module _ {A : Type 0} (r c : ℕ) (ts : List Test) (a : A) where
  pub verdict-holds : (b : Bool) → b ≡ true → verdict (test b r c ∷ ts) a ≡ refuses r c
  unfolding verdict test
  verdict-holds b e = rw e

  pub verdict-passes : (b : Bool) → b ≡ false → verdict (test b r c ∷ ts) a ≡ verdict ts a
  unfolding verdict test
  verdict-passes b e = rw e

-- what is given is what comes after the tests, of which none refuses
pub outcome-passed : {A : Type 0} (o : Test) (ts : List Test) (a x : A) → verdict (o ∷ ts) a ≡ gives x → (o ≡ gives tt) × (verdict ts a ≡ gives x)
unfolding verdict
outcome-passed (gives u) ts a x e = (refl, e)
outcome-passed (refuses r c) ts a x e = absurd (outcome-laws.never (sym e))

pub verdict-passed : {A : Type 0} (b : Bool) (r c : ℕ) (ts : List Test) (a x : A) → verdict (test b r c ∷ ts) a ≡ gives x → (b ≡ false) × (verdict ts a ≡ gives x)
unfolding verdict test
verdict-passed true r c ts a x e = absurd (outcome-laws.never (sym e))
verdict-passed false r c ts a x e = (refl, e)
