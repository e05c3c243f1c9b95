-- Where code or length is not the chosen one, neither is the part. Else a part decoded to the values is what encode writes for them just
-- where the bits after theirs are 0, which `zeros_after` tells.
use Rattle.std.proofs.Common.{◌≡◌, ℕ, List, length, sym, ◌∙◌, arith}
use Rattle.std.specs.Int.{div_ceil}
use Rattle.codes.specs.declared.choosing.Choice.{Choice}
use Rattle.codes.specs.Bits.{bytes_for}
use Rattle.codes.specs.Codes.{Within}
use Rattle.codes.specs.Choice.{size, chosen}
use Rattle.codes.proofs.Best.{chosen-size}
use Rattle.codes.proofs.ChosenParts.{other-code, other_length, chosen-code}
use Rattle.codes.proofs.DecodedParts.{same-part}
use Rattle.codes.proofs.comparing.is_chosen.Goals as goal

-- where the code is the chosen one, its size is the level's
its_size : (vs : List ℕ) (code : ℕ) (r : Choice) → r ≡ chosen vs → r.code ≡ code → ((chosen vs).code ≡ code) × (r.size ≡ size code vs)
its_size vs code r e h = let same : (chosen vs).code ≡ code = rw e at h in (same, rw (e, ← same) (chosen-size vs))

pub returns-then-choice-code : goal.returns-then-choice-code
returns-then-choice-code c = sym (other-code c.args.code c.args.values.now c.args.part.bytes.now (rw c.choose-choice.ensures at c.if-choice-code.true))

-- whole bytes for n bits
whole : (n r : ℕ) → r ≡ div_ceil n 8 → r ≡ bytes_for n
whole n r e = omega (arith, e)

pub returns-then-part-div_ceil : goal.returns-then-part-div_ceil
returns-then-part-div_ceil c =
    let s = its_size c.args.values.now c.args.code c.choose-choice.result c.choose-choice.ensures c.if-choice-code.false in
    sym (other_length c.args.code c.args.values.now c.args.part.bytes.now (rw (whole _ _ c.div_ceil.ensures, s.1) at c.if-part-div_ceil.true))

pub returns : goal.returns
returns c =
    let vs = c.args.values.now in
    let bytes = c.args.part.bytes.now in
    let s = its_size vs c.args.code c.choose-choice.result c.choose-choice.ensures c.if-choice-code.false in
    let w : Within 8 bytes = c.zeros_after.ensures.fit in
    rw s.1 at c.zeros_after.ensures.zeros ∙ sym (same-part c.args.code (length vs) bytes vs c.requires.part_value w (rw (whole _ _ c.div_ceil.ensures, s.1) at c.if-part-div_ceil.false))
    ∙ sym (chosen-code c.args.code vs bytes s.0)
