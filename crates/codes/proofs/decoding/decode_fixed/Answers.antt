-- The part has too few bits, or all values: zeros for width 0, else by fours, twos and ones, each from where the one before ends.
use Rattle.std.proofs.Common.{◌≡◌, length, sym, refl, ◌∙◌, arith}
use Rattle.codes.specs.Bits.{bits_of}
use Rattle.codes.proofs.Bits.{length-fixed}
use Rattle.codes.proofs.Decodes.{fixed-decoded, fixed-undecoded, numbers-are, numbers-none}
use Rattle.codes.proofs.decoding.decode_fixed.Goals as goal

pub returns-then-part-values : goal.returns-then-part-values
returns-then-part-values c = rw (fixed-undecoded c.args.w (length c.args.values.now) (bits_of c.args.part.bytes.now) (simp length-fixed (omega arith))) refl

pub returns-then-w-eq0 : goal.returns-then-w-eq0
returns-then-w-eq0 c =
    let n = length c.args.values.now in
    let w : c.args.w ≡ 0 = omega arith in
    rw (fixed-decoded c.args.w n (bits_of c.args.part.bytes.now) (simp length-fixed (omega arith)))
    (refl, c.fill.ensures.after (λ y e. e) ∙ sym (rw w (numbers-none n (bits_of c.args.part.bytes.now))))

pub returns : goal.returns
returns c =
    let n = length c.args.values.now in
    rw (fixed-decoded c.args.w n (bits_of c.args.part.bytes.now) (simp length-fixed (omega arith)))
    (refl, numbers-are c.args.w n (bits_of c.args.part.bytes.now) c.decode_by.new.values (omega arith) (λ q h. c.decode_by.ensures.2 q (omega (arith, c.decode_by.ensures.1))))
