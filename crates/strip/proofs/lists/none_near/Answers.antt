use native.Mathlib.Omega.{arith}
use mathlib.Core.Path.{◌≡◌, refl, sym, ◌∙◌}
use mathlib.Core.Bool.{Bool, true, false, not, ◌||◌}
use Prim.Native.Nat.{suc, ◌+◌, ◌-◌, ◌≤◌}
use lib.ListN.{get_or}
use borrow.Author.Tests.{ltb-false}
use Rattle.strip.proofs.Gaps.{gap-later, gap-end}
use Rattle.strip.proofs.lists.none_near.Goals as goal

neither : (a b : Bool) → a || b ≡ false → (a ≡ false) × (b ≡ false)
neither true b e = cc
neither false b e = (refl, e)

negated : (a : Bool) → not a ≡ true → a ≡ false
negated true e = cc
negated false e = refl

pub loop-i-preserved : goal.loop-i-preserved
loop-i-preserved c = (
  omega arith,
  λ z.
      let xs = c.args.times.now in
      let e : suc (c.loop-i.i - 1) ≡ c.loop-i.i = omega arith in
      let f : c.loop-i.i + 1 - 1 ≡ c.loop-i.i = omega arith in
      let both = neither c.loop-i.any c.is_near-any.result z in
      let h : get_or xs (c.loop-i.i - 1) 0 + c.args.r ≤ get_or xs c.loop-i.i 0 = ltb-false _ _ (sym c.is_near-any.ensures ∙ both.1) in
      let later = rw e at (gap-later c.args.r xs (c.loop-i.i - 1) (rw e (omega arith)) (rw e h)) in
      rw f (omega (arith, c.loop-i.invariant.1 both.0, later)),
)

pub returns : goal.returns
returns c e = omega (arith, c.loop-i.invariant.1 (negated c.loop-i.any e), gap-end c.args.r c.args.times.now (c.loop-i.i - 1) (omega arith))
