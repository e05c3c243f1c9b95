-- The line put is all that is printed for a refused strip.
use native.Mathlib.Omega.{arith}
use mathlib.Core.Path.{sym, ap, ◌∙◌}
use native.Mathlib.Nat.{zero-add}
use lib.ListN.{length, length-take}
use Rattle.pinlist.proofs.Listings.{refusal-few, prints-refusal}
use Rattle.pinlist.proofs.Pieces.{front-is, whole-next}
use Rattle.pinlist.proofs.print_refusal.Goals as goal

pub put_refusal-end-requires : goal.put_refusal-end-requires
put_refusal-end-requires c = refusal-few c.args.number c.args.carried

pub slice_bounds-text-end : goal.slice_bounds-text-end
slice_bounds-text-end c =
    let line-is = front-is _ c.put_refusal-end.ensures.text_after c.put_refusal-end.ensures.value in
    omega (arith, line-is.1)

pub slice_bounds-write_next-end : goal.slice_bounds-write_next-end
slice_bounds-write_next-end c =
    let line-is = front-is _ c.put_refusal-end.ensures.text_after c.put_refusal-end.ensures.value in
    simp length-take (omega (arith, line-is.1))

pub write_next-requires : goal.write_next-requires
write_next-requires c =
    let line-is = front-is _ c.put_refusal-end.ensures.text_after c.put_refusal-end.ensures.value in
    let all-is = line-is.0 ∙ sym (prints-refusal c.args.s.now c.requires) in
    whole-next (sym all-is)

pub returns : goal.returns
returns c =
    let line-is = front-is _ c.put_refusal-end.ensures.text_after c.put_refusal-end.ensures.value in
    let all-is = line-is.0 ∙ sym (prints-refusal c.args.s.now c.requires) in
    c.write_next.ensures ∙ zero-add _ ∙ ap length all-is
