-- What waits goes to the top of a word, whose first bytes are the last ones of the part.
use Rattle.std.proofs.Common.{◌≡◌, ◌+◌, ◌-◌, ◌/◌, length, take, drop, sym, ◌∙◌, arith, length-drop, length-take-le}
use Rattle.std.proofs.lemmas.Slice.{take-put_mid, take-put_mid_below, drop-put_mid}
use Rattle.codes.proofs.Bits.{within-take}
use Rattle.codes.proofs.BitsWritten.{padded-last}
use Rattle.codes.proofs.writing.Writer.finish.Goals as goal

pub returns : goal.returns
returns c =
    let p = c.args.self in
    let o = c.args.out.now in
    let n = c.div_ceil-last.result in
    let k = p.at + n - p.at in
    let bytes = c.copy_from_slice.new.self in
    let e : n ≡ (p.have + 7) / 8 = omega (arith, c.div_ceil-last.ensures) in
    let len : length bytes ≡ k = c.copy_from_slice.ensures.len ∙ length-take-le k (drop p.at o) (simp length-drop (omega arith)) in
    let f = rw (take-put_mid_below p.at k o bytes p.at (omega arith) (omega arith)) at (within-take 8 p.at _ (λ i. (c.type_inv.out i).fits)) in
    let after : bytes ≡ take n c.word_bytes-bytes.result = grind (arith, c.copy_from_slice.ensures.after) in (
      omega arith,
      take-put_mid p.at k o bytes (p.at + n) (omega arith) (omega arith) ∙ rw (after, c.word_bytes-bytes.ensures) (sym (padded-last (take p.at o) p.have p.acc n f p.few e)),
      drop-put_mid p.at k o bytes (p.at + n) (omega arith) (omega arith) len,
    )
