-- Header, entries and parts, written one after the other, are the strip (`strip-written`); a plan's ends do not fall, as the entries need.
use native.Mathlib.Omega.{arith}
use mathlib.Core.Path.{ap, ◌∙◌}
use mathlib.Core.List.{List}
use Prim.Native.Nat.{ℕ, ◌+◌, ◌^◌, ◌≤◌, ◌<◌}
use lib.ListN.{length, get_or}
use Rattle.codes.specs.Codes.{Within}
use Rattle.codes.specs.Lists.{replaced}
use Rattle.tree.specs.Shape.{height}
use Rattle.strip.specs.Layout.{parts_start}
use Rattle.strip.specs.Image.{length_for, part_for, joined}
use Rattle.strip.specs.Written.{entry_in}
use Rattle.strip.proofs.Layouts.{height_fits}
use Rattle.strip.proofs.Plans.{level-short, length-chosen, size_small, plan-pins, plan-at, length-strip, strip-written}
use Rattle.strip.proofs.writing.put_strip.Goals as goal

pub put_header-requires : goal.put_header-requires
put_header-requires c = omega (arith, length-strip c.args.values.now)

pub overflow_cast-levels : goal.overflow_cast-levels
overflow_cast-levels c = let p = c.requires.values_len_bound in rw (plan-pins c.args.values.now c.args.levels p.2) (omega arith)

pub put_entries-requires : goal.put_entries-requires
put_entries-requires c =
    let p = c.requires.values_len_bound in
    let values = c.args.values.now in
    let within : Within 32 values = λ j. (c.type_inv.values j).fits in
    let n = plan-pins values c.args.levels p.2 in
    let in_order : (d : ℕ) → d < height c.args.levels.pins
    → (get_or c.args.levels.ends d 0 ≤ get_or c.args.levels.ends (d + 1) 0) × (get_or c.args.levels.ends (d + 1) 0 < get_or c.args.levels.ends d 0 + 2 ^ 32) =
    λ d h.
    let k = plan-at values p.0 d (rw n at h) in
    let few : length_for values d < 2 ^ 32 = omega (arith, length-chosen values within d, size_small values within d, level-short values d) in
    rw p.2 (omega (arith, k.starts, k.ends_at), omega (arith, k.starts, k.ends_at, few)) in
    record { pins_bound = (rw n (height_fits (length values) p.0), rw n (omega (arith, length-strip values))); by_index = in_order }

pub returns : goal.returns
returns c =
    let n = c.args.levels.pins in
    let h = height n in
    let p = c.requires.values_len_bound in
    c.put_parts.ensures
    ∙ ap (λ (o : List ℕ). replaced o (parts_start n) (joined (part_for c.args.values.now) h)) c.put_entries.ensures
    ∙ ap (λ (o : List ℕ). replaced (replaced o 7 (joined (entry_in c.args.levels) h)) (parts_start n) (joined (part_for c.args.values.now) h)) c.put_header.ensures
    ∙ strip-written c.args.values.now p.0 c.args.levels p.2 c.args.out.now c.requires.values_in_bounds
