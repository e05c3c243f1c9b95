use Rattle.std.proofs.Common.{◌≡◌, ℕ, ◌+◌, ◌*◌, ◌/◌, ◌%◌, ◌^◌, ◌<◌, ◌≤◌, List, length, get_or, take, drop, sym, refl, ◌∙◌, append-nil, zero-mul, arith, length-drop, get_or-drop, drop-set-lt}
use Rattle.codes.specs.Bits.{number, fixed}
use Rattle.codes.specs.Codes.{rest}
use Rattle.codes.proofs.Bits.{bits-fixed, number_lt}
use Rattle.codes.proofs.LayersWritten.{length-fixed-take, number-fixed-suc, rest-suc}
use Rattle.codes.proofs.Lists.{drop-later, get_or-there}
use Rattle.codes.proofs.layering.joined_chunks.Goals as goal

-- one chunk more
next : (b : ℕ) (vs us : List ℕ) (from i : ℕ) → from + i < length vs → length vs ≡ length us → drop (from + i) vs ≡ drop (from + i) us
    → let ws = drop from us in
    let joined = number (fixed b (take i ws)) * 2 ^ b + get_or vs (from + i) 0 % 2 ^ b in
    (joined ≡ number (fixed b (take (i + 1) ws))) × (joined < 2 ^ ((i + 1) * b))
next b vs us from i h n e =
    let ws = drop from us in
    let l : i + 1 ≤ length ws = simp length-drop (omega arith) in
    let x = get_or-there vs us (from + i) e 0 ∙ sym (get_or-drop from us i 0) in
    let s = number-fixed-suc b ws i (omega arith) in
    rw x (s, rw s (number_lt (fixed b (take (i + 1) ws)) (bits-fixed b (take (i + 1) ws)) (length-fixed-take b ws (i + 1) l)))

pub loop-i-init : goal.loop-i-init
unfolding number fixed rest
loop-i-init c = (omega arith, refl, sym (append-nil (take c.args.left c.args.values.now)), refl, rw (zero-mul c.args.radix.bits) (omega arith))

pub loop-i-preserved : goal.loop-i-preserved
loop-i-preserved c =
    let us = c.args.values.now in
    let ws = drop c.args.from us in
    let at = c.args.from + c.loop-i.i in
    let e : get_or c.loop-i.values at 0 ≡ get_or ws c.loop-i.i 0 = get_or-there c.loop-i.values us at c.loop-i.invariant.1 0 ∙ sym (get_or-drop c.args.from us c.loop-i.i 0) in
    let q = get_or c.loop-i.values at 0 / 2 ^ c.args.radix.bits in
    let m = next c.args.radix.bits c.loop-i.values us c.args.from c.loop-i.i (omega arith) (omega arith) c.loop-i.invariant.1 in
    let k : c.args.from + (c.loop-i.i + 1) ≡ at + 1 = omega arith in (
      omega arith,
      rw k (drop-set-lt (at + 1) c.loop-i.values c.loop-i.left q (omega arith) ∙ drop-later c.loop-i.values us at c.loop-i.invariant.1 (at + 1) (omega arith)),
      rw (c.more.ensures.1, e) (rest-suc c.args.radix.bits c.loop-i.left c.loop-i.i c.loop-i.values ws (take c.args.left us) (omega arith) (simp length-drop (omega arith)) c.loop-i.invariant.2),
      rw (c.args.radix.scale, c.chunk.ensures, c.loop-i.invariant.3) m.0,
      rw (c.args.radix.scale, c.chunk.ensures, c.loop-i.invariant.3) m.1,
    )
