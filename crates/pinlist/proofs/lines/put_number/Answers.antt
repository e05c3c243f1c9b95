-- `io::decimal` gives the fewest digits that hold the number, which are those of `decimal`, and the byte is put after them.
use native.Mathlib.Omega.{arith}
use mathlib.Core.Path.{◌≡◌, sym, ap, ◌∙◌}
use mathlib.Core.List.{[], ◌∷◌}
use Prim.Native.Nat.{ℕ, ◌+◌}
use lib.ListN.{length, length-append}
use Rattle.codes.specs.Lists.{replaced}
use Rattle.codes.proofs.Promises.{list-laws}
use Rattle.pinlist.specs.Texts.{decimal, numeral}
use Rattle.pinlist.proofs.Decimals.{digits_decimal}
use Rattle.pinlist.proofs.lines.put_number.Goals as goal

-- where the digits end, a byte before the numeral does
ends : (x after a : ℕ) {end : ℕ} → a + length (decimal x) ≡ end → end + 1 ≡ a + length (numeral x after)
unfolding numeral
ends x after a e = rw (length-append (decimal x) (after ∷ [])) (omega (arith, e))

pub put-end-requires : goal.put-end-requires
unfolding numeral
put-end-requires c =
    let digits_are = c.decimal-k.ensures.digits ∙ digits_decimal c.args.x c.decimal-k.result c.ranges.x.fits c.decimal-k.ensures.len in
    rw digits_are (omega (arith, simp length-append at c.requires))

pub bounds-text-end : goal.bounds-text-end
bounds-text-end c =
    let digits_are = c.decimal-k.ensures.digits ∙ digits_decimal c.args.x c.decimal-k.result c.ranges.x.fits c.decimal-k.ensures.len in
    omega (arith, ends c.args.x c.args.after c.args.at (sym (rw digits_are at c.put-end.ensures.value)))

pub overflow_add-result : goal.overflow_add-result
overflow_add-result c =
    let digits_are = c.decimal-k.ensures.digits ∙ digits_decimal c.args.x c.decimal-k.result c.ranges.x.fits c.decimal-k.ensures.len in
    omega (arith, ends c.args.x c.args.after c.args.at (sym (rw digits_are at c.put-end.ensures.value)))

pub returns : goal.returns
unfolding numeral
returns c =
    let digits_are = c.decimal-k.ensures.digits ∙ digits_decimal c.args.x c.decimal-k.result c.ranges.x.fits c.decimal-k.ensures.len in
    let digits-end = sym (rw digits_are at c.put-end.ensures.value) in
    let end = ends c.args.x c.args.after c.args.at digits-end in
    let digits = c.put-end.ensures.text_after ∙ ap (replaced c.args.text.now c.args.at) digits_are in record {
      text_after = rw digits
          (sym (list-laws.replaced_none _ (c.put-end.result + 1))
          ∙ list-laws.replaced_around c.args.text.now c.args.at c.put-end.result (decimal c.args.x) c.args.after [] digits-end (omega (arith, end)));
      value = end;
    }
