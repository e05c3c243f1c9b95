-- After i turns `joined` spells the chunks of i values, and what these have above follows the `left` in front. It is stored no further than
-- at the value just read, so those not read yet are as they were.
use Rattle.std.proofs.Common.{◌≡◌, ◌+◌, ◌*◌, ◌^◌, ◌<◌, ◌≤◌, ◌++◌, take, drop}
use Rattle.codes.specs.Bits.{number, fixed}
use Rattle.codes.specs.Codes.{rest}
use Rattle.codes.proofs.layering.joined_chunks.Given as goal

abbrev pub invariant-loop-i : goal.invariant-loop-i
invariant-loop-i l =
    (l.left ≤ l.initial.left + l.i) × (drop (l.from + l.i) l.values ≡ drop (l.from + l.i) l.initial.values)
    × (take l.left l.values ≡ take l.initial.left l.initial.values ++ rest l.radix.bits (take l.i (drop l.from l.initial.values)))
    × (l.joined ≡ number (fixed l.radix.bits (take l.i (drop l.from l.initial.values)))) × (l.joined < 2 ^ (l.i * l.radix.bits))
