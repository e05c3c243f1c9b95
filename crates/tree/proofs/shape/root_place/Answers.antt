-- Half of the last level's greatest count decides between the two cases of the definition.
use Rattle.std.proofs.Common.{arith, pow_mono, ◌≡◌, sym, ap, ◌∙◌, ℕ, ◌-◌, ◌*◌, ◌^◌, ◌≤◌, lt-ltb, le-ltb}
use Rattle.tree.proofs.Heights.{Half, half_of, height-le, place-small}
use Rattle.tree.specs.Shape.{height}
use Rattle.tree.proofs.shape.root_place.Goals as goal

pub returns-then-n-lt2 : goal.returns-then-n-lt2
returns-then-n-lt2 c = sym (place-small c.args.n c.if-n-lt2.true)

pub overflow_sub-height : goal.overflow_sub-height
overflow_sub-height c = omega (arith, (half_of c.args.n (omega arith)).tall)

pub power_of_two-half-requires : goal.power_of_two-half-requires
power_of_two-half-requires c = omega (arith, height-le c.args.n 64 (omega arith))

pub overflow_mul-half : goal.overflow_mul-half
overflow_mul-half c =
    let h : height c.args.n - 2 ≤ 62 = omega (arith, height-le c.args.n 64 (omega arith)) in
    omega (arith, pow_mono h, ap (λ (k : ℕ). 2 ^ (k - 2)) c.height.ensures)

pub overflow_sub-result : goal.overflow_sub-result
overflow_sub-result c = omega (arith, (half_of c.args.n (omega arith)).least, ap (λ (k : ℕ). 2 ^ (k - 2)) c.height.ensures)

pub returns-then-n-half : goal.returns-then-n-half
returns-then-n-half c =
    let e : 2 ^ (height c.args.n - 2) ≡ c.power_of_two-half.result = omega (arith, ap (λ (k : ℕ). 2 ^ (k - 2)) c.height.ensures) in
    let h : Half c.args.n c.power_of_two-half.result = rw e at (half_of c.args.n (omega arith)) in
    sym (h.place ∙ rw (lt-ltb c.args.n (3 * c.power_of_two-half.result) c.if-n-half.true))

pub returns-else-n-half : goal.returns-else-n-half
returns-else-n-half c =
    let e : 2 ^ (height c.args.n - 2) ≡ c.power_of_two-half.result = omega (arith, ap (λ (k : ℕ). 2 ^ (k - 2)) c.height.ensures) in
    let h : Half c.args.n c.power_of_two-half.result = rw e at (half_of c.args.n (omega arith)) in
    sym (h.place ∙ rw (le-ltb c.args.n (3 * c.power_of_two-half.result) (omega arith)))
