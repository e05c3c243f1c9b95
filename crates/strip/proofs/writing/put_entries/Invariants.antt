-- After d turns the first d entries, of 5 bytes each, stand from byte 7 on; the ends do not fall, so no length is below 0.
use Rattle.std.proofs.Common.{◌≡◌}
use Rattle.codes.specs.Lists.{replaced}
use Rattle.tree.specs.Shape.{height}
use Rattle.strip.specs.Image.{joined}
use Rattle.strip.specs.Written.{entry_in}
use Rattle.strip.proofs.writing.put_entries.Given as goal

abbrev pub invariant-loop-d : goal.invariant-loop-d
invariant-loop-d l =
    (l.d-end ≡ height l.levels.pins) × (l.out ≡ replaced l.initial.out 7 (joined (entry_in l.levels) l.d))
