-- After i turns `acc` is the number that the first i bytes spell; of at most 7 bytes it stays below 2^56.
use Rattle.std.proofs.Common.{◌≡◌, ◌*◌, ◌^◌, ◌<◌, take}
use Rattle.codes.specs.Bits.{number, bits_of}
use Rattle.codes.proofs.reading.short_word.Given as goal

abbrev pub invariant-loop-b : goal.invariant-loop-b
invariant-loop-b l = (l.acc < 2 ^ 56) × (l.acc ≡ number (take (l.b-index * 8) (bits_of l.part)))
