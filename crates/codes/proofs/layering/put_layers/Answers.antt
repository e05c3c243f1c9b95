use Rattle.std.proofs.Common.{◌≡◌, ◌+◌, ◌≤◌, ◌++◌, length, take, drop, sym, ap, ◌∙◌, append-nil, arith, length-append, length-take-le}
use Rattle.std.proofs.lemmas.List.{length-map, take-append-le}
use Rattle.codes.specs.Bits.{sum}
use Rattle.codes.specs.Codes.{continuation, rest}
use Rattle.codes.proofs.BitsWritten.{wrote-both}
use Rattle.codes.proofs.Layers.{layers-nil, within-rest, within_more}
use Rattle.codes.proofs.LayersWritten.{rest_sum, layer-room, layer-next}
use Rattle.codes.proofs.layering.put_layers.Goals as goal

pub put_continuations-p-requires : goal.put_continuations-p-requires
put_continuations-p-requires c =
    let v = c.loop-left.invariant in
    let w = v.3 in
    omega (arith, layer-room c.args.b (take c.loop-left.left c.loop-left.values) v.0 _ c.requires.le_b.0 v.2 v.4)

pub put_chunks-chunks-requires : goal.put_chunks-chunks-requires
put_chunks-chunks-requires c =
    let v = c.loop-left.invariant in
    let w = v.3 in
    let b = c.args.b in
    let us = take c.loop-left.left c.loop-left.values in
    let u = rw c.of-radix.ensures at c.put_continuations-p.ensures in
    rw c.of-radix.ensures (omega (arith, layer-room b us v.0 _ c.requires.le_b.0 v.2 v.4, length-map us (continuation b)))

pub loop-left-smaller : goal.loop-left-smaller
loop-left-smaller c =
    let b = c.args.b in
    let us = take c.loop-left.left c.loop-left.values in
    let vs = c.put_chunks-chunks.new.values in
    let n = c.put_chunks-chunks.result.left in
    let g = rw c.of-radix.ensures at c.put_chunks-chunks.ensures in
    let l : n ≤ length vs = omega arith in
    let e : take n (vs ++ drop c.loop-left.left c.loop-left.values) ≡ rest b us = take-append-le n vs _ l ∙ g.2 in
    let m : length (rest b us) ≡ n = sym (ap length g.2) ∙ length-take-le n vs l in
    let q : n + sum (take n (vs ++ drop c.loop-left.left c.loop-left.values)) ≤ sum us = rw (e, ← m) (rest_sum b us c.requires.le_b.0) in
    omega (arith, c.loop-left-test.true)

pub loop-left-preserved : goal.loop-left-preserved
loop-left-preserved c =
    let v = c.loop-left.invariant in
    let b = c.args.b in
    let us = take c.loop-left.left c.loop-left.values in
    let vs = c.put_chunks-chunks.new.values in
    let n = c.put_chunks-chunks.result.left in
    let g = rw c.of-radix.ensures at c.put_chunks-chunks.ensures in
    let l : n ≤ length vs = omega arith in
    let e : take n (vs ++ drop c.loop-left.left c.loop-left.values) ≡ rest b us = take-append-le n vs _ l ∙ g.2 in (
      _,
      simp length-append (omega arith),
      rw e (within_more 31 32 (rest b us) (omega arith) (within-rest b 31 us c.requires.le_b.0 v.2)),
      wrote-both (wrote-both v.3 (rw c.of-radix.ensures at c.put_continuations-p.ensures)) g.0,
      layer-next b us _ v.0 _ c.requires.le_b.0 v.2 v.4 e,
    )

pub returns : goal.returns
returns c =
    let v = c.loop-left.invariant in
    let e : c.loop-left.left ≡ 0 = omega arith in
    rw (rw (e, layers-nil 32 c.args.b, append-nil v.0) at v.4) at v.3
