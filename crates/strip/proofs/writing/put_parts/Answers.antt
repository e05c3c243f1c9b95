use native.Mathlib.Omega.{arith}
use mathlib.Core.Path.{◌≡◌, sym, ap, ◌∙◌}
use mathlib.Core.List.{List, ◌++◌}
use Prim.Native.Nat.{ℕ, ◌-◌}
use lib.ListN.{length, drop, get_or}
use borrow.Rule.Slice.PartMut.{mid_of, put_mid}
use Rattle.codes.specs.Lists.{replaced}
use Rattle.codes.specs.Codes.{part}
use Rattle.codes.proofs.Promises.{list-laws}
use Rattle.tree.specs.Shape.{height}
use Rattle.tree.proofs.Promises.{stored-levels}
use Rattle.strip.specs.Layout.{parts_start}
use Rattle.strip.specs.Image.{part_for, joined}
use Rattle.strip.proofs.Layouts.{height_fits}
use Rattle.strip.proofs.Plans.{plan-pins, plan-spot, level_holds}
use Rattle.strip.proofs.Pieces.{joined-next, length-lent, lent_written}
use Rattle.strip.proofs.writing.put_parts.Goals as goal

pub loop-d-init : goal.loop-d-init
unfolding joined
loop-d-init c =
    let p = c.requires.values_len_bound in
    let h = c.height-d-end.ensures ∙ ap height (plan-pins c.args.values.now c.args.levels p.2) in (
      rw h (height_fits (length c.args.values.now) p.0),
      h,
      λ j. (c.type_inv.values j).fits,
      sym (list-laws.replaced_none c.args.out.now (parts_start (length c.args.values.now))),
    )

pub slice_bounds-encode-count : goal.slice_bounds-encode-count
slice_bounds-encode-count c =
    let p = c.requires.values_len_bound in
    omega (arith, (plan-spot c.args.values.now p.0 c.args.levels p.2 c.loop-d.d (omega arith)).room)

pub slice_bounds-encode-start : goal.slice_bounds-encode-start
slice_bounds-encode-start c =
    let p = c.requires.values_len_bound in
    omega (arith, (plan-spot c.args.values.now p.0 c.args.levels p.2 c.loop-d.d (omega arith)).room)

pub encode-requires : goal.encode-requires
encode-requires c =
    let p = c.requires.values_len_bound in
    let values = c.args.values.now in
    let d = c.loop-d.d in
    let k = plan-spot values p.0 c.args.levels p.2 d (omega arith) in
    let e = c.level_values.ensures in
    record {
      holds = rw (k.code_is, e) (level_holds values c.loop-d.invariant.2 d);
      values_in_bounds = (
        rw (k.part-is _ e, length-lent c.loop-d.out (get_or c.args.levels.ends d 0)) (omega (arith, k.room)),
        rw e (omega (arith, stored-levels.half values d)),
      );
    }

pub loop-d-preserved : goal.loop-d-preserved
loop-d-preserved c =
    let p = c.requires.values_len_bound in
    let values = c.args.values.now in
    let d = c.loop-d.d in
    let at = get_or c.args.levels.ends d 0 in
    let k = plan-spot values p.0 c.args.levels p.2 d (omega arith) in
    let vs = c.level_values.result.now in
    let q = k.part-is vs c.level_values.ensures in
    let lent = mid_of at (length c.loop-d.out - at) c.loop-d.out in
    let exit : c.encode.new.out ≡ part (get_or c.args.levels.codes d 0) vs ++ drop c.encode.result lent = c.encode.ensures.out_after in
    let size : c.encode.result ≡ length (part (get_or c.args.levels.codes d 0) vs) = c.encode.ensures.value in
    let last = exit ∙ ap (λ (x : List ℕ). x ++ drop c.encode.result lent) q ∙ ap (λ (n : ℕ). part_for values d ++ drop n lent) (size ∙ ap length q) in
    let now = ap (put_mid at (length c.loop-d.out - at) c.loop-d.out) last ∙ lent_written c.loop-d.out at (part_for values d) (omega (arith, k.room)) in
    let start = parts_start (length values) in
    let before = joined (part_for values) d in (
      c.loop-d.invariant.0,
      c.loop-d.invariant.1,
      c.loop-d.invariant.2,
      now ∙ ap (λ (o : List ℕ). replaced o at (part_for values d)) c.loop-d.invariant.3
          ∙ list-laws.replaced_more c.args.out.now start at before (part_for values d) (sym k.starts) (omega (arith, k.room))
          ∙ ap (replaced c.args.out.now start) (sym (joined-next (part_for values) d)),
    )
