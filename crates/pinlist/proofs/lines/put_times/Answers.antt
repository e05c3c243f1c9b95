use native.Mathlib.Omega.{arith}
use mathlib.Core.Path.{◌≡◌, refl, sym, ◌∙◌}
use Prim.Native.Nat.{◌+◌, ◌-◌}
use native.Mathlib.Nat.{zero-add}
use lib.ListN.{get_or}
use borrow.Author.Tests.{leb-false}
use Rattle.codes.proofs.Promises.{list-laws}
use Rattle.strip.specs.Calls.{plain_list}
use Rattle.pinlist.specs.Texts.{line, lines_from}
use Rattle.pinlist.proofs.Accesses.{accepted, pins_are}
use Rattle.pinlist.proofs.Listings.{line-few, lines-few, line-more}
use Rattle.pinlist.proofs.Pieces.{puts-on}
use Rattle.pinlist.proofs.lines.put_times.Goals as goal

pub loop-k-init : goal.loop-k-init
unfolding lines_from
loop-k-init c = (omega arith, refl, sym (list-laws.replaced_none c.args.text.now 0))

pub time_at-requires : goal.time_at-requires
time_at-requires c = let e = c.requires.0 in (accepted c.args.s.now e, omega (arith, pins_are c.args.s.now e))

pub put_line-end-requires : goal.put_line-end-requires
put_line-end-requires c = omega (arith, leb-false, line-few (c.args.first + c.loop-k.k) c.time_at.result)

pub loop-k-preserved : goal.loop-k-preserved
loop-k-preserved c =
    let xs = plain_list c.args.s.now in
    let q = line (c.args.first + c.loop-k.k) (get_or xs (c.args.first + c.loop-k.k) 0) in
    let both = puts-on c.args.text.now (lines_from xs c.args.first c.loop-k.k) q 0 c.loop-k.invariant.2 (c.loop-k.invariant.1 ∙ sym (zero-add _))
    (c.put_line-end.ensures.text_after ∙ rw c.time_at.ensures) (c.put_line-end.ensures.value ∙ rw c.time_at.ensures) (omega arith) in
    let more = line-more xs c.args.first c.loop-k.k in (
      omega (arith, leb-false, line-few (c.args.first + c.loop-k.k) c.time_at.result),
      rw more (both.1 ∙ zero-add _),
      rw more both.0,
    )

pub returns-then-end-text : goal.returns-then-end-text
returns-then-end-text c = record {
  text_after = c.loop-k.invariant.2;
  end_value = c.loop-k.invariant.1;
  le_lines = (omega (arith, lines-few (plain_list c.args.s.now) c.args.first c.loop-k.k), omega arith);
}

pub returns : goal.returns
returns c =
    let all : c.loop-k.k ≡ c.args.n - c.args.first = omega arith in
    record { text_after = rw all at c.loop-k.invariant.2; end_value = rw all at c.loop-k.invariant.1; le_lines = (omega arith, omega arith) }
