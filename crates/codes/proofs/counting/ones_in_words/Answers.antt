-- Fewer than 30 words are counted one by one. Of more, the streams count a multiple of 30, and the words left begin where these end.
use Rattle.std.proofs.Common.{◌≡◌, ◌+◌, ◌*◌, ◌/◌, ◌%◌, arith}
use Rattle.codes.proofs.Words.{ones-more}
use Rattle.codes.proofs.counting.ones_in_words.Goals as goal

pub returns : goal.returns
returns c =
    let turns = c.args.words / 30 * 2 in
    let e : c.args.words * 64 ≡ turns * 960 + c.args.words % 30 * 64 = omega arith in
    let e' : c.args.first * 8 + turns * 960 ≡ (c.args.first + turns * 120) * 8 = omega arith in
    rw (e, ones-more c.args.part.bytes.now (c.args.first * 8) (turns * 960) (c.args.words % 30 * 64), e') (omega arith)
