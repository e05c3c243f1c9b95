-- The bits of the code are written from the front, and finished.
use Rattle.std.proofs.Common.{◌≡◌, length, sym, refl, ap, arith}
use Rattle.codes.specs.declared.kinds.Kind.TheVariants.{Fixed, Chunked}
use Rattle.codes.specs.Bits.{fixed}
use Rattle.codes.specs.Codes.{kind_of, kind_bits, chunked, worked}
use Rattle.codes.proofs.Bits.{length-fixed}
use Rattle.codes.proofs.BitsWritten.{bits-room, wrote-part}
use Rattle.codes.proofs.CodeByte.{kind-told}
use Rattle.codes.proofs.encoding.encode.Goals as goal

pub put_fixed-p-requires : goal.put_fixed-p-requires
unfolding kind_bits
put_fixed-p-requires c =
    let w = c.in-Fixed.w in
    let vs = c.args.values.now in
    let e : kind_of c.args.code ≡ Fixed w = sym c.in-Fixed.ensures in
    let h = kind-told _ _ e in
    let r = bits-room (fixed w vs) c.args.out.now (rw e at c.requires.values_in_bounds.0) in
    omega (arith, length-fixed w vs)

pub finish-requires : goal.finish-requires
unfolding kind_bits
finish-requires c =
    let w = c.in-Fixed.w in
    let e : kind_of c.args.code ≡ Fixed w = sym c.in-Fixed.ensures in
    let r = bits-room (fixed w c.args.values.now) c.args.out.now (rw e at c.requires.values_in_bounds.0) in
    omega arith

pub put_layers-p-requires : goal.put_layers-p-requires
unfolding kind_bits
put_layers-p-requires c =
    let b = c.in-Chunked.b in
    let vs = c.args.values.now in
    let e : kind_of c.args.code ≡ Chunked b = sym c.in-Chunked.ensures in
    let h = kind-told _ _ e in
    let r = bits-room (chunked b vs) c.args.out.now (rw e at c.requires.values_in_bounds.0) in
    let t = c.copy.ensures in
    record { le_b = rw t (h.0, h.1, rw e at c.requires.holds); values_in_bounds = rw t (omega arith) }

pub finish-requires-in-Chunked : goal.finish-requires-in-Chunked
unfolding kind_bits
finish-requires-in-Chunked c =
    let b = c.in-Chunked.b in
    let e : kind_of c.args.code ≡ Chunked b = sym c.in-Chunked.ensures in
    let r = bits-room (chunked b c.args.values.now) c.args.out.now (rw e at c.requires.values_in_bounds.0) in
    let u = rw c.copy.ensures at c.put_layers-p.ensures in
    omega arith

pub returns-in-Fixed : goal.returns-in-Fixed
unfolding kind_bits worked
returns-in-Fixed c =
    let e : kind_of c.args.code ≡ Fixed c.in-Fixed.w = sym c.in-Fixed.ensures in
    let u = wrote-part c.new-start.ensures c.put_fixed-p.ensures c.finish.ensures in
    rw e (record { value = u.0; out_after = u.1; work_after = refl })

pub returns-in-Chunked : goal.returns-in-Chunked
unfolding kind_bits worked
returns-in-Chunked c =
    let e : kind_of c.args.code ≡ Chunked c.in-Chunked.b = sym c.in-Chunked.ensures in
    let t = c.copy.ensures in
    let n : length c.put_layers-p.new.values ≡ length c.args.values.now = omega (arith, ap length t) in
    let u = wrote-part c.new-start.ensures (rw t at c.put_layers-p.ensures) c.finish-in-Chunked.ensures in
    let z = rw n at (c.fill.ensures.after (λ y f. f)) in
    rw e (record { value = u.0; out_after = u.1; work_after = rw z })
