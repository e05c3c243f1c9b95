-- The place in the full tree of the same height, with its zeros below the lowest one bit, says the level and the node on it; the closed form
-- of the ranks says that it is the node of rank i.
use Rattle.std.proofs.Common.{◌≡◌, ap, ◌∙◌, ℕ, suc, ◌+◌, ◌-◌, ◌*◌, ◌/◌, ◌^◌, ◌≤◌, ◌<◌, lt_of_not-le, add-one, pow_mono, arith}
use lib.Count.{count_trailing_zeros}
use Rattle.tree.specs.Shape.{height}
use Rattle.tree.proofs.Heights.{Digits, digits, height-le}
use Rattle.tree.proofs.NodePlaces.{trailing, node-ranked}
use Rattle.tree.proofs.shape.node_of.Goals as goal

-- the first node of the last level, of the levels above it
record First (n first : ℕ) : Type 0 where
  top : Digits n
  is : first ≡ 2 ^ top.top

first_of : {n h first : ℕ} → 1 ≤ n → h ≡ height n → first ≡ 2 ^ (h - 1) → First n first
first_of {n} {h} {first} some high is =
    let top = digits n some in
    let e : h - 1 ≡ top.top = omega (arith, top.is) in
    record { top = top; is = is ∙ ap (λ (k : ℕ). 2 ^ k) e }

-- its lowest one bit parts a place
odd : (p : ℕ) → 1 ≤ p → p < 2 ^ 63 → let k = count_trailing_zeros 64 p in p ≡ p / 2 ^ suc k * 2 ^ suc k + 2 ^ k
odd p some small = trailing 64 p some (omega arith)

-- and the zeros below it are few
few : (p : ℕ) → 1 ≤ p → p < 2 ^ 63 → count_trailing_zeros 64 p < 63
few p some small = lt_of_not-le (λ h. omega (arith, pow_mono h, odd p some small))

pub overflow_sub-height : goal.overflow_sub-height
overflow_sub-height c = omega (arith, (digits c.args.n (omega arith)).is, c.height.ensures)

pub power_of_two-first-requires : goal.power_of_two-first-requires
power_of_two-first-requires c = omega (arith, c.height.ensures, height-le c.args.n 62 (omega arith))

pub overflow_sub-leaves : goal.overflow_sub-leaves
overflow_sub-leaves c =
    let first = first_of (omega arith) c.height.ensures c.power_of_two-first.ensures in
    omega (arith, first.is, first.top.least)

pub overflow_mul-result : goal.overflow_mul-result
overflow_mul-result c =
    let first = first_of (omega arith) c.height.ensures c.power_of_two-first.ensures in
    omega (arith, first.is, first.top.least)

pub overflow_add-result : goal.overflow_add-result
overflow_add-result c =
    let first = first_of (omega arith) c.height.ensures c.power_of_two-first.ensures in
    omega (arith, first.is, first.top.least)

pub overflow_shr-result : goal.overflow_shr-result
overflow_shr-result c =
    let f = few (c.args.i + 1 + c.saturating_sub.result) (omega arith) (omega arith) in
    omega arith

pub returns : goal.returns
returns c =
    let first = first_of (omega arith) c.height.ensures c.power_of_two-first.ensures in
    let top = first.top in
    let p = c.args.i + 1 + c.saturating_sub.result in
    let k = count_trailing_zeros 64 p in
    let placed : p ≡ suc c.args.i + (suc c.args.i - 2 * (suc c.args.n - 2 ^ top.top)) = omega (arith, first.is) in
    rw (first.is, add-one k) (node-ranked c.args.n top.top c.args.i p k top.least top.below (omega arith) placed (odd p (omega arith) (omega arith)))
