-- Eight bytes from the lowest on make a number with the ones of their bits (`ones-reversed`).
use Rattle.std.proofs.Common.{ℕ, ◌<◌, ap, ◌∙◌, arith}
use lib.Count.{ones}
use Rattle.codes.proofs.Words.{entry-there, ones-reversed}
use Rattle.codes.proofs.counting.ones_word.Goals as goal

pub returns : goal.returns
returns c =
    let at = λ (j : ℕ) (h : j < 8). entry-there c.args.part.now c.bytes_at.result 8 c.args.first j c.bytes_at.ensures h in
    ap ones (omega (
      arith,
      c.from_le_bytes.ensures,
      at 0 (omega arith),
      at 1 (omega arith),
      at 2 (omega arith),
      at 3 (omega arith),
      at 4 (omega arith),
      at 5 (omega arith),
      at 6 (omega arith),
      at 7 (omega arith),
    )) ∙ (ones-reversed 8 c.args.part.now c.args.first (omega arith) (λ i. (c.type_inv.part i).fits)).1
