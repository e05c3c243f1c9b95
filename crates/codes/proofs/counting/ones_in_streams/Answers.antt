use Rattle.std.proofs.Common.{◌≡◌, ◌*◌, ◌∙◌, arith}
use Rattle.codes.proofs.Streams.{streams-none, streams-more, streams-all}
use Rattle.codes.proofs.counting.ones_in_streams.Goals as goal

pub loop-i-init : goal.loop-i-init
loop-i-init c = omega (arith, streams-none 15 c.args.part.bytes.now c.args.first (c.args.turns * 8))

pub loop-i-preserved : goal.loop-i-preserved
loop-i-preserved c = omega (arith, streams-more 15 c.loop-i.i c.args.part.bytes.now c.args.first (c.args.turns * 8))

pub returns : goal.returns
returns c =
    let e : c.loop-i.i ≡ c.args.turns = omega arith in
    let e' : 15 * (c.args.turns * 64) ≡ c.args.turns * 960 = omega arith in
    (omega arith, c.loop-i.invariant.1 ∙ rw (e, streams-all 15 c.args.turns c.args.part.bytes.now c.args.first, e'))
