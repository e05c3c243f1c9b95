-- The line is put where `refused ` ends.
use native.Mathlib.Omega.{arith}
use Rattle.pinlist.specs.Texts.{ascii, line, refusal_line}
use Rattle.pinlist.proofs.Pieces.{puts-on}
use Rattle.pinlist.proofs.lines.put_refusal.Goals as goal

pub put-at-requires : goal.put-at-requires
unfolding refusal_line
put-at-requires c = omega (arith, c.requires)

pub put_line-requires : goal.put_line-requires
unfolding refusal_line
put_line-requires c = omega (arith, c.requires)

pub returns : goal.returns
unfolding refusal_line
returns c =
    let both = puts-on c.args.text.now (ascii "refused ") (line c.args.number c.args.carried) 0 c.put-at.ensures.text_after c.put-at.ensures.value
    c.put_line.ensures.text_after c.put_line.ensures.value (omega arith) in
    record { text_after = both.0; value = omega (arith, both.1) }
