-- The bits wait with those that do, and where these are 32 or more the first 32 are stored.
use Rattle.std.proofs.Common.{◌+◌, ◌-◌, refl, ◌∙◌, arith}
use Rattle.codes.proofs.BitsWritten.{wrote-bits, wrote-word}
use Rattle.codes.proofs.writing.Writer.put.Goals as goal

pub returns-then-have-lt32 : goal.returns-then-have-lt32
returns-then-have-lt32 c = wrote-bits c.args.out.now c.args.self _ c.args.w c.args.x (omega arith) (omega arith) refl refl refl

pub returns : goal.returns
returns c =
    wrote-word c.args.out.now c.args.self _ c.args.w c.args.x (omega arith) (omega arith) refl c.copy_from_slice.new.self (c.args.self.at + 4 - c.args.self.at) (omega arith) (omega arith) refl (omega arith) (c.copy_from_slice.ensures.after ∙ c.word_bytes.ensures) (omega arith)
