-- The w bits lie in the 4 bytes from `first` on; the shift drops those after them, and the w lowest that are left spell the number.
use Rattle.std.proofs.Common.{◌≡◌, ℕ, ◌+◌, ◌-◌, ◌*◌, ◌≤◌, sym, ◌∙◌, arith}
use Rattle.codes.proofs.Words.{read-part}
use Rattle.codes.proofs.reading.read_short.Goals as goal

-- the bits after w bits in 4 bytes
after : (at w first : ℕ) → first * 8 ≤ at → at + w ≤ first * 8 + 32 → at + w + (32 - (at - first * 8) - w) ≡ (first + 4) * 8
after at w first l h = omega arith

pub returns : goal.returns
returns c =
    let first = c.min-first.result in
    let l : first * 8 ≤ c.args.at = omega arith in
    let h : c.args.at + c.args.w ≤ first * 8 + 32 = omega arith in
    let law = read-part c.args.part.now c.args.at c.args.w first 4 _ l (after c.args.at c.args.w first l h) (omega arith) in
    c.low_bits.ensures.1 ∙ rw (c.from.ensures, c.four_bytes.ensures) (sym law)
