-- The bits after the first `size` are the lowest of the last byte, and `low_bits` has their number; an empty part has none.
use Rattle.std.proofs.Common.{◌≡◌, ℕ, ◌-◌, ◌*◌, ◌%◌, List, [], ◌∷◌, length, get_or, drop, sym, refl, ◌∙◌, arith, eq-eqb}
use lib.Seq.{drop-nil}
use Rattle.codes.specs.Bits.{number, fixed, bits_of}
use Rattle.codes.proofs.Words.{last-bits}
use Rattle.codes.proofs.comparing.zeros_after.Goals as goal

none : (bytes : List ℕ) (n : ℕ) → length bytes ≡ 0 → number (drop n (bits_of bytes)) ≡ 0
unfolding number fixed
none [] n h = rw (drop-nil {A = ℕ} n)
none (x ∷ bytes) n h = absurd (omega arith)

pub returns-in-Some-clause-zeros : goal.returns-in-Some-clause-zeros
returns-in-Some-clause-zeros c =
    let bytes : List ℕ = c.args.bytes.now in
    let last = c.in-Some.ensures.item in
    let b : c.from.result ≡ get_or bytes (length bytes - 1) 0 = c.from.ensures ∙ last.3.1 0 in
    let left : length bytes * 8 - c.args.size ≡ (8 - c.args.size % 8) % 8 = omega arith in
    rw (last-bits bytes c.args.size (omega arith) (omega (arith, last.3.0)) (c.type_inv.bytes (length bytes - 1)).fits, left, ← b, c.low_bits.ensures.1) refl

pub returns-in-Some-clause-fit : goal.returns-in-Some-clause-fit
returns-in-Some-clause-fit c = λ j. (c.type_inv.bytes j).fits

pub returns-in-None-clause-zeros : goal.returns-in-None-clause-zeros
returns-in-None-clause-zeros c = sym (eq-eqb _ 0 (none c.args.bytes.now c.args.size (omega (arith, c.in-None.ensures.item.3))))

pub returns-in-None-clause-fit : goal.returns-in-None-clause-fit
returns-in-None-clause-fit c = λ j. (c.type_inv.bytes j).fits
