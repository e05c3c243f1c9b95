-- Four bytes from the highest on make what their bits spell (`number-bytes`).
use Rattle.std.proofs.Common.{ℕ, ◌<◌, arith}
use Rattle.codes.proofs.Words.{entry-there, number-bytes}
use Rattle.codes.proofs.reading.four_bytes.Goals as goal

pub returns : goal.returns
returns c =
    let at = λ (j : ℕ) (h : j < 4). entry-there c.args.part.now c.bytes_at.result 4 c.args.first j c.bytes_at.ensures h in
    let spelled = number-bytes 4 c.args.part.now c.args.first (omega arith) (λ i. (c.type_inv.part i).fits) in
    omega (arith, c.from_be_bytes.ensures, spelled, at 0 (omega arith), at 1 (omega arith), at 2 (omega arith), at 3 (omega arith))
