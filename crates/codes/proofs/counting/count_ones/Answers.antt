-- The ones up to a whole byte, those of whole words and those of what is left are all.
use Rattle.std.proofs.Common.{◌≡◌, ℕ, ◌+◌, ◌-◌, ◌*◌, ◌/◌, ◌%◌, ◌≤◌, arith}
use Rattle.codes.proofs.Words.{ones-more}
use Rattle.codes.proofs.counting.count_ones.Goals as goal

-- they begin a byte
whole : (from : ℕ) → let start = from + (7 - (from + 7) % 8) in start / 8 * 8 ≡ start
whole from = omega arith

parts : (from to h w : ℕ) → from + h + w ≤ to → to - from ≡ h + (w + (to - (from + h + w)))
parts from to h w l = omega arith

pub returns : goal.returns
returns c =
    let head = 7 - (c.args.from + 7) % 8 in
    let start = c.args.from + head in
    let words = (c.args.to - start) / 64 in
    let rest = c.args.to - (start + words * 64) in
    let e : c.args.to - c.args.from ≡ head + (words * 64 + rest) = parts c.args.from c.args.to head (words * 64) (omega arith) in
    let in_words_lem = rw (whole c.args.from) at c.ones_in_words.ensures.1 in
    (omega arith, rw (e, ones-more c.args.part.bytes.now c.args.from head (words * 64 + rest), ones-more c.args.part.bytes.now start (words * 64) rest) (omega arith))
