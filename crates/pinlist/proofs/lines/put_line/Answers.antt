-- The second numeral is put where the first ends.
use native.Mathlib.Omega.{arith}
use Prim.Native.Char.{code}
use lib.ListN.{length-append}
use Rattle.pinlist.specs.Texts.{numeral, line}
use Rattle.pinlist.proofs.Pieces.{puts-on}
use Rattle.pinlist.proofs.lines.put_line.Goals as goal

pub put_number-next-requires : goal.put_number-next-requires
unfolding line
put_number-next-requires c = omega (arith, simp length-append at c.requires)

pub put_number-requires : goal.put_number-requires
unfolding line
put_number-requires c = omega (arith, simp length-append at c.requires)

pub returns : goal.returns
unfolding line
returns c =
    let both = puts-on c.args.text.now (numeral c.args.x (code " ")) (numeral c.args.y (code "\n")) c.args.at
    c.put_number-next.ensures.text_after c.put_number-next.ensures.value c.put_number.ensures.text_after c.put_number.ensures.value
    (omega (arith, simp length-append at c.requires)) in
    record { text_after = both.0; value = both.1 }
