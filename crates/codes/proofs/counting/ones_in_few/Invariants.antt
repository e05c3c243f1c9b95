-- After i turns `count` is the number of ones in the first i words, at most 64 for each.
use Rattle.std.proofs.Common.{◌≡◌, ◌*◌, ◌≤◌, take, drop}
use Rattle.codes.specs.Bits.{sum, bits_of}
use Rattle.codes.proofs.counting.ones_in_few.Given as goal

abbrev pub invariant-loop-i : goal.invariant-loop-i
invariant-loop-i l = (l.count ≤ l.i * 64) × (l.count ≡ sum (take (l.i * 64) (drop (l.first * 8) (bits_of l.part.bytes.now))))
