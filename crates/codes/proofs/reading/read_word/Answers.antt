-- The w bits lie in the whole part, where it has fewer than 8 bytes, else in the 8 from `first` on; the shift drops the bits after them.
use Rattle.std.proofs.Common.{◌≡◌, ℕ, ◌+◌, ◌-◌, ◌*◌, ◌≤◌, length, take, sym, arith, take_all}
use Rattle.codes.specs.Bits.{bits_of}
use Rattle.codes.proofs.Bits.{length-fixed}
use Rattle.codes.proofs.Words.{read-part}
use Rattle.codes.proofs.reading.read_word.Goals as goal

-- the bits after w bits in a word
after : (at w first : ℕ) → first * 8 ≤ at → at + w ≤ first * 8 + 64 → at + w + (64 - (at - first * 8) - w) ≡ (first + 8) * 8
after at w first l h = omega arith

pub returns-then-end-lt8 : goal.returns-then-end-lt8
returns-then-end-lt8 c =
    let bytes = c.args.part.now in
    let whole : take (length bytes * 8) (bits_of bytes) ≡ bits_of bytes = take_all (length bytes * 8) (bits_of bytes) (rw (length-fixed 8 bytes) (omega arith)) in
    rw c.short_word.ensures (sym (rw whole at (read-part bytes c.args.at c.args.w 0 (length bytes) (length bytes * 8 - c.args.at - c.args.w) (omega arith) (omega arith) (omega arith))))

pub returns : goal.returns
returns c =
    let first = c.min-first.result in
    let l : first * 8 ≤ c.args.at = omega arith in
    let h : c.args.at + c.args.w ≤ first * 8 + 64 = omega arith in
    rw c.word_at.ensures (sym (read-part c.args.part.now c.args.at c.args.w first 8 _ l (after c.args.at c.args.w first l h) (omega arith)))
