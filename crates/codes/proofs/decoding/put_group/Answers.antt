-- Value i + j is the w bits of x that the K - 1 - j values after it follow.
use Rattle.std.proofs.Common.{◌≡◌, ℕ, ◌+◌, ◌-◌, ◌*◌, ◌∙◌, arith}
use Rattle.codes.specs.Merging.{fixed_value}
use Rattle.codes.proofs.Lists.{more}
use Rattle.codes.proofs.Words.{bits-within}
use Rattle.codes.proofs.decoding.put_group.Goals as goal

around : (k j d w : ℕ) → k ≡ j + 1 + d → k * w ≡ j * w + w + d * w
around k j d w e = rw e (omega arith)

pub loop-j-preserved : goal.loop-j-preserved
loop-j-preserved g c = λ bytes h e known q l.
    let k = g.row.K in
    let i = c.args.i in
    let j = c.loop-j.j in
    let w = c.args.w in
    let d = k - 1 - j in
    let all = around k j d w (omega arith) in
    let there : (i + j) * w ≡ i * w + j * w = omega arith in
    let x = bits-within bytes (i * w) (j * w) w (d * w) c.args.x (omega arith) (rw all at e) in
    more c.loop-j.values (i + j) c.low_bits.result (fixed_value w bytes) (omega arith) (c.loop-j.invariant bytes h e known) (c.low_bits.ensures.1 ∙ rw there x) q (omega arith)
