use Rattle.std.proofs.Common.{◌≡◌, ℕ, Bool, List, length, ◌<◌, ◌^◌, refl, sym, ap, ◌∙◌, arith}
use Rattle.codes.specs.Choice.{is_chosen}
use Rattle.codes.specs.Decode.{all}
use Rattle.tree.specs.declared.nodes.Levels.{Levels}
use Rattle.tree.specs.Shape.{height}
use Rattle.tree.specs.DecodedLevels.{decoded_levels}
use Rattle.tree.specs.Levels.{code_of, part_of, level_values}
use Rattle.tree.specs.Chosen.{chosen_by, level_chosen, chosen_to}
use Rattle.tree.proofs.NodeFetches.{pins-bound}
use Rattle.tree.proofs.LevelValues.{level-half}
use Rattle.tree.proofs.AllValues.{values-count, decoded-values, level-decodes}
use Rattle.tree.proofs.LevelsChosen.{chosen-next, chosen-not}
use Rattle.tree.proofs.tree.Tree.are_chosen.Goals as goal

-- a level as its values tell
compared : (levels : Levels) (s : List ℕ) (d : ℕ) {values : List ℕ} {chosen : Bool} → decoded_levels levels s ≡ all values → d < height levels.pins
    → chosen ≡ is_chosen (code_of levels d) (level_values values d) (part_of levels.ends s d) → level_chosen levels s d ≡ chosen
compared levels s d {values} e few is = ap (chosen_by (code_of levels d) (part_of levels.ends s d)) (decoded-values levels s values e d few) ∙ sym is

pub loop-d-init : goal.loop-d-init
unfolding chosen_to
loop-d-init c = refl

pub level_values-requires : goal.level_values-requires
level_values-requires c =
    let t = c.args.self.now in
    rw (values-count t.levels t.bytes.now c.args.values.now c.requires) (omega arith)

pub is_chosen-requires : goal.is_chosen-requires
is_chosen-requires c =
    let t = c.args.self.now in
    let values = c.args.values.now in
    let d = c.loop-d.d in
    let few : length (level_values values d) < 2 ^ 32 =
    omega (arith, level-half values d, values-count t.levels t.bytes.now values c.requires, pins-bound t.levels t.bytes.now t.fits) in
    rw (c.level_values.ensures, c.part.ensures) record {
      values_len_bound = few;
      part_value = level-decodes t.levels t.bytes.now values c.requires d (omega arith);
    }

pub returns-then-not-is_chosen : goal.returns-then-not-is_chosen
returns-then-not-is_chosen c =
    let t = c.args.self.now in
    let d = c.loop-d.d in
    let level = compared t.levels t.bytes.now d c.requires (omega arith) (rw (c.level_values.ensures, c.part.ensures) at c.is_chosen.ensures) in
    sym (chosen-not t.levels t.bytes.now d (height t.levels.pins) (omega arith) (level ∙ c.if-not-is_chosen.true))

pub loop-d-preserved : goal.loop-d-preserved
loop-d-preserved c =
    let t = c.args.self.now in
    let d = c.loop-d.d in
    let level = compared t.levels t.bytes.now d c.requires (omega arith) (rw (c.level_values.ensures, c.part.ensures) at c.is_chosen.ensures) in
    chosen-next t.levels t.bytes.now d c.loop-d.invariant (level ∙ c.if-not-is_chosen.false)
