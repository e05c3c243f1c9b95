-- Each turn writes the bits of one value after those of the values before it.
use Rattle.std.proofs.Common.{take}
use Rattle.codes.specs.Bits.{fixed}
use Rattle.codes.specs.Written.{Wrote}
use Rattle.codes.proofs.encoding.put_fixed.Given as goal

abbrev pub invariant-loop-v : goal.invariant-loop-v
invariant-loop-v l = Wrote l.initial.out l.initial.p l.out l.p (fixed l.w (take l.v-index l.values))
