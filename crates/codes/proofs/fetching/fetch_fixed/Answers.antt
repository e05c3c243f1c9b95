-- Of width 0 every value is 0; of another it lies in the part, and is read.
use Rattle.std.proofs.Common.{sym, ap, ◌∙◌, arith}
use Rattle.codes.specs.Bits.{number, bits_of}
use Rattle.codes.specs.Fetch.{value}
use Rattle.codes.proofs.Bits.{length-fixed}
use Rattle.codes.proofs.Fetches.{fixed-inside}
use Rattle.codes.proofs.fetching.fetch_fixed.Goals as goal

pub returns-then-w-eq0 : goal.returns-then-w-eq0
unfolding number
returns-then-w-eq0 c = sym (rw c.if-w-eq0.true (fixed-inside 0 c.args.index (bits_of c.args.part.bytes.now) (omega arith)))

pub returns : goal.returns
returns c = ap value c.read.ensures.1 ∙ sym (fixed-inside c.args.w c.args.index (bits_of c.args.part.bytes.now) (rw (length-fixed 8 c.args.part.bytes.now) (omega arith)))
