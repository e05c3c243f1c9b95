-- After some values `joined` is the number that their continuation bits spell; of at most 32 bits it stays below 2^32.
use Rattle.std.proofs.Common.{◌≡◌, ◌^◌, ◌<◌, map, take}
use Rattle.codes.specs.Bits.{number}
use Rattle.codes.specs.Codes.{continuation}
use Rattle.codes.proofs.layering.joined_continuations.Given as goal

abbrev pub invariant-loop-v : goal.invariant-loop-v
invariant-loop-v l = (l.joined ≡ number (map (continuation l.radix.bits) (take l.v-index l.values))) × (l.joined < 2 ^ 32)
