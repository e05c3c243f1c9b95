use Rattle.std.proofs.Common.{◌≡◌, ◌≤◌, ℕ, replicate, length, take_all, ◌-◌, ◌^◌, refl, sym, ap, ◌∙◌, arith}
use Rattle.codes.specs.Decode.{all, is_decoded, decoded_or0}
use Rattle.tree.specs.Shape.{height}
use Rattle.tree.specs.DecodedLevels.{decoded_to, decoded_levels}
use Rattle.tree.proofs.Heights.{height_bound}
use Rattle.tree.proofs.NodeFetches.{pins-bound}
use Rattle.tree.proofs.AllValues.{entries-at, level-end, level-few, level-kept, level-added, level-missed}
use Rattle.tree.proofs.tree.Tree.decode_levels.Goals as goal

pub loop-depth-init : goal.loop-depth-init
unfolding decoded_to
loop-depth-init c = refl

pub slice_bounds-decode-end : goal.slice_bounds-decode-end
slice_bounds-decode-end c =
    let at = entries-at c.args.self.now.levels c.args.values.now c.loop-depth.values c.requires c.loop-depth.auto.values c.loop-depth-test.true
    c.height-depth-end.ensures c.power_of_two-first.ensures c.count_of.ensures.1 in
    omega (arith, level-end at)

pub decode-requires : goal.decode-requires
decode-requires c =
    let t = c.args.self.now in
    let at = entries-at t.levels c.args.values.now c.loop-depth.values c.requires c.loop-depth.auto.values c.loop-depth-test.true
    c.height-depth-end.ensures c.power_of_two-first.ensures c.count_of.ensures.1 in
    level-few at (pins-bound t.levels t.bytes.now t.fits)

pub returns-then-not-decode : goal.returns-then-not-decode
returns-then-not-decode c =
    let t = c.args.self.now in
    let at = entries-at t.levels c.args.values.now c.loop-depth.values c.requires c.loop-depth.auto.values c.loop-depth-test.true
    c.height-depth-end.ensures c.power_of_two-first.ensures c.count_of.ensures.1 in
    let e = level-missed at t.bytes.now c.loop-depth.invariant (rw c.part.ensures at (sym c.decode.ensures.value ∙ c.if-not-decode.true)) in
    let kept = level-kept at c.decode.new.values c.decode.auto.values in
    record {
      told = sym (ap is_decoded e);
      left = c.fill.ensures.after (λ y h. h) ∙ ap (λ (n : ℕ). replicate n 0) kept ∙ sym (ap (decoded_or0 t.levels.pins) e);
    }

pub loop-depth-preserved : goal.loop-depth-preserved
loop-depth-preserved c =
    let at = entries-at c.args.self.now.levels c.args.values.now c.loop-depth.values c.requires c.loop-depth.auto.values c.loop-depth-test.true
    c.height-depth-end.ensures c.power_of_two-first.ensures c.count_of.ensures.1 in
    let told = rw c.part.ensures at (sym c.decode.ensures.value ∙ c.if-not-decode.false) in
    level-added at c.args.self.now.bytes.now c.loop-depth.invariant told (rw c.part.ensures at c.decode.ensures.values_after) c.decode.auto.values

pub returns : goal.returns
returns c =
    let t = c.args.self.now in
    let n = t.levels.pins in
    let d = c.loop-depth.depth in
    let depth : d ≡ height n = rw c.requires (omega arith) in
    let whole : length c.loop-depth.values ≤ 2 ^ d - 1 = rw depth (omega (arith, height_bound n)) in
    let e : decoded_levels t.levels t.bytes.now ≡ all c.loop-depth.values =
    rw (← depth) (c.loop-depth.invariant ∙ ap all (take_all (2 ^ d - 1) c.loop-depth.values whole)) in
    record { told = sym (ap is_decoded e); left = sym (ap (decoded_or0 n) e) }
