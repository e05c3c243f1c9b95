use Rattle.std.proofs.Common.{◌≡◌, ℕ, ◌+◌, ◌*◌, ◌/◌, ◌≤◌, List, ◌++◌, length, take, drop, refl, ◌∙◌, le_trans, mul-le-mul_right, add-mul, div-mul-le_self, arith, length-drop, take_all}
use Rattle.codes.specs.declared.writing.Writer.{Writer}
use Rattle.codes.specs.Bits.{bits, number, fixed}
use Rattle.codes.specs.Codes.{rest}
use Rattle.codes.specs.Written.{Wrote}
use Rattle.codes.proofs.Bits.{bits-fixed, number_lt, bits-number}
use Rattle.codes.proofs.BitsWritten.{wrote_nothing, wrote-both}
use Rattle.codes.proofs.LayersWritten.{fixed-add, length-fixed-take, rest-add}
use Rattle.codes.proofs.Lists.{drop-later}
use Rattle.codes.proofs.layering.put_chunks.Goals as goal

-- chunks that go into 32 bits
fits : (b k : ℕ) → k ≤ 32 / b → k * b ≤ 32
fits b k t = le_trans (mul-le-mul_right b t) (div-mul-le_self 32 b)

pub loop-i-init : goal.loop-i-init
unfolding fixed rest
loop-i-init c = (omega arith, omega arith, refl, refl, wrote_nothing c.args.out.now c.args.writer)

pub put-writer-requires : goal.put-writer-requires
put-writer-requires c =
    let k = c.min-k.result in
    let b = c.args.radix.bits in
    let w = c.loop-i.invariant.4 in
    let t : k ≤ 32 / b = omega (arith, c.min-k.ensures) in
    let s : c.loop-i.i + k ≤ length c.args.values.now = omega (arith, c.min-k.ensures) in
    let vs = take k (drop c.loop-i.i c.loop-i.values) in
    let n = length-fixed-take b (drop c.loop-i.i c.loop-i.values) k (simp length-drop (omega arith)) in
    let m : c.loop-i.i * b + k * b ≤ length c.args.values.now * b = rw (add-mul c.loop-i.i k b) at (mul-le-mul_right b s) in
    record {
      w_bound = (fits b k t, rw c.joined_chunks-group.ensures.0 (number_lt (fixed b vs) (bits-fixed b vs) n));
      w_in_bounds = omega (arith, length-fixed-take b c.args.values.now c.loop-i.i (omega arith));
    }

-- what a turn adds: the chunks of k values from value i on, which are as they were
module _ (us vs : List ℕ) (b i k : ℕ) (l : i + k ≤ length us) (h : drop i vs ≡ drop i us) where
  spelled : {o r s : List ℕ} {p q t : Writer} {x : ℕ} → Wrote o p r q (fixed b (take i us)) → x ≡ number (fixed b (take k (drop i vs))) → Wrote r q s t (bits (k * b) x) → Wrote o p s t (fixed b (take (i + k) us))
  spelled w e u =
      let ws = take k (drop i us) in
      let n = length-fixed-take b (drop i us) k (simp length-drop (omega arith)) in
      rw (fixed-add b us i k) (wrote-both w (rw (e, h, bits-number (fixed b ws) (bits-fixed b ws) n) at u))

  above : (left left' : ℕ) (vs' : List ℕ) → take left vs ≡ rest b (take i us) → take left' vs' ≡ take left vs ++ rest b (take k (drop i vs)) → take left' vs' ≡ rest b (take (i + k) us)
  above left left' vs' e f = rw (f, e, h, rest-add b us i k)

pub loop-i-preserved : goal.loop-i-preserved
loop-i-preserved c =
    let us = c.args.values.now in
    let v = c.loop-i.invariant in
    let g = c.joined_chunks-group.ensures in
    let e : c.min-k.result ≡ 32 / c.args.radix.bits = omega (arith, c.min-k.ensures) in
    let l : c.loop-i.i + c.min-k.result ≤ length us = omega (arith, c.min-k.ensures) in
    rw (← e) (
      omega arith,
      omega arith,
      g.3 ∙ drop-later c.loop-i.values us c.loop-i.i v.2 (c.loop-i.i + c.min-k.result) (omega arith),
      above us c.loop-i.values c.args.radix.bits c.loop-i.i c.min-k.result l v.2 c.loop-i.left c.joined_chunks-group.result.left c.joined_chunks-group.new.values v.3 g.2,
      spelled us c.loop-i.values c.args.radix.bits c.loop-i.i c.min-k.result l v.2 v.4 g.0 c.put-writer.ensures,
    )

pub returns-2 : goal.returns-2
returns-2 c =
    let us = c.args.values.now in
    let v = c.loop-i.invariant in
    let g = c.joined_chunks-group.ensures in
    let i = c.loop-i.i + c.min-k.result in
    let l : i ≤ length us = omega (arith, c.min-k.ensures) in
    let h : length us ≤ i = omega (arith, c.min-k.ensures) in
    let e = take_all i us h in
    (rw e at (spelled us c.loop-i.values c.args.radix.bits c.loop-i.i c.min-k.result l v.2 v.4 g.0 c.put-writer.ensures), omega arith, rw e at (above us c.loop-i.values c.args.radix.bits c.loop-i.i c.min-k.result l v.2 c.loop-i.left c.joined_chunks-group.result.left c.joined_chunks-group.new.values v.3 g.2))
