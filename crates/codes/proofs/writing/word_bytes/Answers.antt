use Rattle.std.proofs.Common.{sym, ◌∙◌}
use Rattle.codes.proofs.BitsWritten.{word-bytes}
use Rattle.codes.proofs.writing.word_bytes.Goals as goal

pub returns : goal.returns
returns c = c.to_be_bytes.ensures ∙ sym (word-bytes c.args.x)
