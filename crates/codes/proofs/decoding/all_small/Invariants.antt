-- `joined` is below 2^(32 - b) just where each value so far and one less of it is; one less of 0 wraps to all 32 bits, so a 0 is told, too.
use Rattle.std.proofs.Common.{◌≡◌, ◌-◌, ◌^◌, ltb, take}
use Rattle.codes.specs.Decode.{from_one}
use Rattle.codes.proofs.decoding.all_small.Given as goal

abbrev pub invariant-loop-v : goal.invariant-loop-v
invariant-loop-v l = let limit = 2 ^ (32 - l.radix.bits) in ltb l.joined limit ≡ from_one limit (take l.v-index l.values)
