use native.Mathlib.Omega.{arith}
use mathlib.Core.Path.{◌≡◌, sym, ◌∙◌}
use Prim.Native.Nat.{suc, ◌+◌, ◌-◌, ◌≤◌, ◌<◌}
use lib.ListN.{get_or}
use borrow.Author.Tests.{ltb-true, ltb-false}
use Rattle.strip.proofs.Gaps.{gap-here, gap-later, gap-end}
use Rattle.strip.proofs.lists.near_from_start.Goals as goal

pub returns-then-is_near : goal.returns-then-is_near
returns-then-is_near c =
    let xs = c.args.times.now in
    let e : suc (c.loop-i.i - 1) ≡ c.loop-i.i = omega arith in
    let h : get_or xs c.loop-i.i 0 < get_or xs (c.loop-i.i - 1) 0 + c.args.r = ltb-true _ _ (sym c.is_near.ensures ∙ c.if-is_near.true) in
    omega (arith, gap-here c.args.r xs (c.loop-i.i - 1) (rw e (omega arith)) (rw e h))

pub loop-i-preserved : goal.loop-i-preserved
loop-i-preserved c =
    let xs = c.args.times.now in
    let e : suc (c.loop-i.i - 1) ≡ c.loop-i.i = omega arith in
    let f : c.loop-i.i + 1 - 1 ≡ c.loop-i.i = omega arith in
    let h : get_or xs (c.loop-i.i - 1) 0 + c.args.r ≤ get_or xs c.loop-i.i 0 = ltb-false _ _ (sym c.is_near.ensures ∙ c.if-is_near.false) in
    (omega arith, rw f (omega (arith, rw e at (gap-later c.args.r xs (c.loop-i.i - 1) (rw e (omega arith)) (rw e h)))))

pub returns : goal.returns
returns c = omega (arith, gap-end c.args.r c.args.times.now (c.loop-i.i - 1) (omega arith))
