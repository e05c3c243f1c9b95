use Rattle.std.proofs.Common.{◌++◌, map, sym, ap, ◌∙◌, append_assoc, arith}
use Rattle.std.proofs.lemmas.List.{length-map, map-append}
use Rattle.codes.specs.Codes.{continuation}
use Rattle.codes.proofs.Bits.{number_lt, bits-number}
use Rattle.codes.proofs.BitsWritten.{wrote-both}
use Rattle.codes.proofs.Layers.{bits-continuations}
use Rattle.codes.proofs.layering.put_continuations.Goals as goal

pub put-p-requires-clause-w_bound : goal.put-p-requires-clause-w_bound
put-p-requires-clause-w_bound c =
    let b = c.args.radix.bits in
    let vs = c.in-Some.group.now in
    let x = number_lt (map (continuation b) vs) (bits-continuations b vs) (length-map vs (continuation b)) in
    (omega (arith, c.in-Some.ensures.steps), rw c.joined_continuations.ensures x)

pub loop-group-preserved : goal.loop-group-preserved
loop-group-preserved c =
    let b = c.args.radix.bits in
    let vs = c.in-Some.group.now in
    let v = c.loop-group.invariant in
    let e = bits-number (map (continuation b) vs) (bits-continuations b vs) (length-map vs (continuation b)) in (
      v.0 ++ vs,
      append_assoc v.0 vs _ ∙ ap (λ m. v.0 ++ m) (sym c.in-Some.ensures.steps.1.0) ∙ v.1,
      c.in-Some.ensures.steps.0 ∙ v.2,
      rw (map-append (continuation b) v.0 vs) (wrote-both v.3 (rw (c.joined_continuations.ensures, e) at c.put-p.ensures)),
    )
