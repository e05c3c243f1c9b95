-- The numeral is put where `pins ` ends.
use native.Mathlib.Omega.{arith}
use Prim.Native.Char.{code}
use Rattle.pinlist.specs.Texts.{ascii, numeral, header}
use Rattle.pinlist.proofs.Pieces.{puts-on}
use Rattle.pinlist.proofs.lines.put_header.Goals as goal

pub put-at-requires : goal.put-at-requires
unfolding header
put-at-requires c = omega (arith, c.requires)

pub put_number-requires : goal.put_number-requires
unfolding header
put_number-requires c = omega (arith, c.requires)

pub returns : goal.returns
unfolding header
returns c =
    let both = puts-on c.args.text.now (ascii "pins ") (numeral c.args.n (code "\n")) 0 c.put-at.ensures.text_after c.put-at.ensures.value
    c.put_number.ensures.text_after c.put_number.ensures.value (omega arith) in
    record { text_after = both.0; value = omega (arith, both.1) }
