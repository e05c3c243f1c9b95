-- The closed forms of where a missing child's stretch starts, on the last level and below it.
use Rattle.std.proofs.Common.{◌≡◌, ap, ◌∙◌, ℕ, ◌^◌, arith}
use Rattle.tree.specs.Shape.{height}
use Rattle.tree.proofs.Heights.{height-le}
use Rattle.tree.proofs.NodePlaces.{missing-last, missing-below}
use Rattle.tree.proofs.shape.missing_at.Goals as goal

-- the first number below the last level
past : (n : ℕ) {h below : ℕ} → below ≡ 2 ^ h → h ≡ height n → below ≡ 2 ^ height n
past n is e = is ∙ ap (λ (k : ℕ). 2 ^ k) e

pub power_of_two-below-requires : goal.power_of_two-below-requires
power_of_two-below-requires c = omega (arith, c.height.ensures, height-le c.args.n 62 (omega arith))

pub overflow_sub-result : goal.overflow_sub-result
overflow_sub-result c =
    let below = past c.args.n c.power_of_two-below.ensures c.height.ensures in
    omega (arith, below, missing-last c.args.n c.args.v (omega arith) (omega (arith, below)))

pub returns-then-v-below : goal.returns-then-v-below
returns-then-v-below c =
    let below = past c.args.n c.power_of_two-below.ensures c.height.ensures in
    omega (arith, below, missing-last c.args.n c.args.v (omega arith) (omega (arith, below)))

pub returns-else-v-below : goal.returns-else-v-below
returns-else-v-below c =
    let below = past c.args.n c.power_of_two-below.ensures c.height.ensures in
    omega (arith, below, missing-below c.args.n c.args.v (omega arith) (omega arith) (omega (arith, below)))
