use native.Mathlib.Omega.{arith}
use mathlib.Core.Path.{◌≡◌, sym, ap, ◌∙◌}
use Prim.Native.Nat.{suc, ◌+◌, ◌/◌}
use lib.ListN.{length, get_or}
use Rattle.codes.specs.declared.choosing.Choice.{Choice}
use Rattle.codes.specs.Choice.{chosen}
use Rattle.tree.specs.Levels.{level_values}
use Rattle.strip.specs.Layout.{parts_start, end_after, entered}
use Rattle.strip.specs.Image.{code_for, length_for}
use Rattle.strip.proofs.Layouts.{height_fits, entered-none, entered-next, entered_all, end-start, end-next}
use Rattle.strip.proofs.Plans.{level-short, level-code, length-chosen, size_small}
use Rattle.strip.proofs.packing.plan.Goals as goal

pub loop-d-init : goal.loop-d-init
loop-d-init c =
    let values = c.args.values.now in
    let n = length values in
    let low = height_fits n (omega arith) in
    let blank = c.no_levels-levels.ensures in
    let start : get_or c.no_levels-levels.result.ends 0 0 ≡ parts_start n = rw blank in (
      c.height-d-end.ensures,
      omega arith,
      omega (arith, start),
      start ∙ sym (end-start (parts_start n) (length_for values)),
      blank ∙ entered-none n (code_for values) (length_for values),
      λ j. (c.type_inv.values j).fits,
    )

pub overflow_add-end : goal.overflow_add-end
overflow_add-end c =
    let values = c.args.values.now in
    let ch : c.choose-choice.result ≡ chosen (level_values values c.loop-d.d) = c.choose-choice.ensures ∙ ap chosen c.level_values.ensures in
    omega (arith, ap (λ (x : Choice). x.size) ch, size_small values c.loop-d.invariant.5 c.loop-d.d, level-short values c.loop-d.d)

pub loop-d-preserved : goal.loop-d-preserved
loop-d-preserved c =
    let values = c.args.values.now in
    let n = length values in
    let d = c.loop-d.d in
    let next : d + 1 ≡ suc d = omega arith in
    let ch : c.choose-choice.result ≡ chosen (level_values values d) = c.choose-choice.ensures ∙ ap chosen c.level_values.ensures in
    let e : c.loop-d.end + (c.choose-choice.result.size + 7) / 8 ≡ end_after (parts_start n) (length_for values) (suc d) =
    rw (ch, c.loop-d.invariant.3, ← (length-chosen values c.loop-d.invariant.5 d)) (sym (end-next (parts_start n) (length_for values) d)) in (
      c.loop-d.invariant.0,
      c.loop-d.invariant.1,
      omega (arith, ap (λ (x : Choice). x.size) ch, size_small values c.loop-d.invariant.5 d, level-short values d),
      rw next e,
      rw c.loop-d.invariant.4
          (entered-next n (code_for values) (length_for values) d c.choose-choice.result.code _ (rw ch (sym (level-code values d))) e),
      c.loop-d.invariant.5,
    )

pub returns : goal.returns
returns c =
    let values = c.args.values.now in
    c.loop-d.invariant.4 ∙ ap (entered (length values) (code_for values) (length_for values)) (omega (arith, c.height-d-end.ensures))
    ∙ entered_all (length values) (code_for values) (length_for values)
