-- The plan's last end is the length of the strip: an output with less room is refused with it, else `put_strip` writes the strip.
use native.Mathlib.Omega.{arith}
use mathlib.Core.Path.{refl, ap}
use lib.ListN.{length}
use borrow.Author.Tests.{lt-ltb, le-ltb}
use Rattle.tree.specs.Shape.{height}
use Rattle.tree.specs.Outcomes.{verdict, test}
use Rattle.strip.specs.Image.{strip_of}
use Rattle.strip.proofs.Layouts.{height_fits}
use Rattle.strip.proofs.Plans.{plan-pins, plan-end}
use Rattle.strip.proofs.packing.pack_values.Goals as goal

pub offset_bounds-levels-h : goal.offset_bounds-levels-h
offset_bounds-levels-h c =
    let values = c.args.values.now in
    omega (arith, ap height (plan-pins values c.plan-levels.result c.plan-levels.ensures), height_fits (length values) c.requires.0)

pub bounds-levels-h : goal.bounds-levels-h
bounds-levels-h c =
    let values = c.args.values.now in
    omega (arith, ap height (plan-pins values c.plan-levels.result c.plan-levels.ensures), height_fits (length values) c.requires.0)

pub returns-then-out-end : goal.returns-then-out-end
unfolding verdict test
returns-then-out-end c =
    let values = c.args.values.now in
    let end = plan-end values c.requires.0 c.plan-levels.result c.plan-levels.ensures c.height-h.result c.height-h.ensures in
    rw (end, lt-ltb (length c.args.out.now) (length (strip_of values)) (omega (arith, end)))
    (record { result_value = refl; out_after = refl })

pub put_strip-requires : goal.put_strip-requires
put_strip-requires c =
    let p = c.requires in
    let end = plan-end c.args.values.now p.0 c.plan-levels.result c.plan-levels.ensures c.height-h.result c.height-h.ensures in
    record { values_len_bound = (p.0, omega arith, c.plan-levels.ensures); values_in_bounds = omega (arith, end) }

pub returns : goal.returns
unfolding verdict test
returns c =
    let values = c.args.values.now in
    let end = plan-end values c.requires.0 c.plan-levels.result c.plan-levels.ensures c.height-h.result c.height-h.ensures in
    rw (end, le-ltb (length c.args.out.now) (length (strip_of values)) (omega (arith, end)))
    (record { result_value = refl; out_after = c.put_strip.ensures })
