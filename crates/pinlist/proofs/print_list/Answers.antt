use native.Mathlib.Omega.{arith}
use mathlib.Core.Path.{◌≡◌, ◌∙◌}
use lib.ListN.{length-take}
use Rattle.strip.specs.Calls.{plain_list}
use Rattle.pinlist.proofs.Listings.{header-few, header-next, header-written, lines_next, lines-written, all-written}
use Rattle.pinlist.proofs.Pieces.{front-is}
use Rattle.pinlist.proofs.print_list.Goals as goal

pub put_header-end-requires : goal.put_header-end-requires
put_header-end-requires c = omega (arith, header-few c.args.n)

pub slice_bounds-write_next-end : goal.slice_bounds-write_next-end
slice_bounds-write_next-end c =
    let header_is = front-is _ c.put_header-end.ensures.text_after c.put_header-end.ensures.value in
    header_is.1

pub slice_bounds-write_next-end-2 : goal.slice_bounds-write_next-end-2
slice_bounds-write_next-end-2 c =
    let header_is = front-is _ c.put_header-end.ensures.text_after c.put_header-end.ensures.value in
    simp length-take (omega (arith, header_is.1))

pub write_next-done-requires : goal.write_next-done-requires
write_next-done-requires c =
    let header_is = front-is _ c.put_header-end.ensures.text_after c.put_header-end.ensures.value in
    rw header_is.0 (header-next c.args.s.now c.requires)

pub loop-i-init : goal.loop-i-init
loop-i-init c =
    let header_is = front-is _ c.put_header-end.ensures.text_after c.put_header-end.ensures.value in (
      omega arith,
      omega arith,
      c.write_next-done.ensures ∙ rw header_is.0 (header-written c.args.s.now c.requires),
    )

pub put_times-piece-requires : goal.put_times-piece-requires
put_times-piece-requires c = (c.requires.1, omega arith, omega arith)

pub slice_bounds-write_next-end-in-loop-i : goal.slice_bounds-write_next-end-in-loop-i
slice_bounds-write_next-end-in-loop-i c =
    let lines_are = front-is _ c.put_times-piece.ensures.text_after c.put_times-piece.ensures.end_value in
    lines_are.1

pub slice_bounds-write_next-end-in-loop-i-2 : goal.slice_bounds-write_next-end-in-loop-i-2
slice_bounds-write_next-end-in-loop-i-2 c =
    let lines_are = front-is _ c.put_times-piece.ensures.text_after c.put_times-piece.ensures.end_value in
    simp length-take (omega (arith, lines_are.1))

pub write_next-done-requires-in-loop-i : goal.write_next-done-requires-in-loop-i
write_next-done-requires-in-loop-i c =
    let lines_are = front-is _ c.put_times-piece.ensures.text_after c.put_times-piece.ensures.end_value in
    rw lines_are.0
    (lines_next c.args.s.now c.requires c.loop-i.i c.put_times-piece.result.lines c.put_times-piece.ensures.le_lines.1 c.loop-i.invariant.2)

pub loop-i-preserved : goal.loop-i-preserved
loop-i-preserved c =
    let lines_are = front-is _ c.put_times-piece.ensures.text_after c.put_times-piece.ensures.end_value in (
      c.put_times-piece.ensures.le_lines.1,
      omega arith,
      c.write_next-done-in-loop-i.ensures
          ∙ rw lines_are.0 (lines-written (plain_list c.args.s.now) c.loop-i.i c.put_times-piece.result.lines c.loop-i.invariant.2),
    )

pub returns : goal.returns
returns c =
    let all : c.loop-i.i ≡ c.args.n = omega arith in
    rw all at c.loop-i.invariant.2 ∙ all-written c.args.s.now c.requires
