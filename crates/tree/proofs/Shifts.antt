-- The nodes above node v are its number shifted, and one bit tells on which side it stands below each.
use Rattle.std.proofs.Common.{◌≡◌, ℕ, ◌+◌, ◌-◌, ◌/◌, ◌%◌, ◌^◌, ◌≤◌, sym, ◌∙◌, arith, eqb, shr-shr}
use lib.Pow.{shr_le}
use Rattle.tree.specs.declared.shape.Stretch.{Stretch}
use Rattle.tree.specs.Shape.{root_place, side_of, stretch}
use Rattle.tree.proofs.Stretches.{stretch-step, place-some}

module _ (n v d : ℕ) {here : Stretch} (some : 1 ≤ v / 2 ^ d) (is : stretch n (v / 2 ^ d) ≡ here) where
  pub shift-place : v ≤ n → (1 ≤ root_place here.pins) × (root_place here.pins ≤ here.pins)
  shift-place k = place-some n some (omega (arith, shr_le v d)) is

  -- one level less above it
  module _ (deep : 1 ≤ d) where
    half : v / 2 ^ d ≡ v / 2 ^ (d - 1) / 2
    half = let e : d - 1 + 1 ≡ d = omega arith in sym (shr-shr v (d - 1) 1 ∙ rw e)

    pub shift-some : 1 ≤ v / 2 ^ (d - 1)
    shift-some = omega (arith, half)

    pub shift-side : stretch n (v / 2 ^ (d - 1)) ≡ side_of (eqb (v / 2 ^ (d - 1) % 2) 1) here
    shift-side = rw (stretch-step n (v / 2 ^ (d - 1)) (omega (arith, half)), ← half, is)
