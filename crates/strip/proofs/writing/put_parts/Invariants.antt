-- After d turns the parts of the first d levels stand after the entries. The plan says where the next one starts and that there is room for
-- it, and a level has at most half of the values, rounded up, for which `work` is long enough.
use Rattle.std.proofs.Common.{◌≡◌, ◌≤◌, length}
use Rattle.codes.specs.Lists.{replaced}
use Rattle.codes.specs.Codes.{Within}
use Rattle.tree.specs.Shape.{height}
use Rattle.strip.specs.Layout.{parts_start}
use Rattle.strip.specs.Image.{part_for, joined}
use Rattle.strip.proofs.writing.put_parts.Given as goal

abbrev pub invariant-loop-d : goal.invariant-loop-d
invariant-loop-d l =
    (l.d-end ≤ 16) × (l.d-end ≡ height (length l.values)) × Within 32 l.values
    × (l.out ≡ replaced l.initial.out (parts_start (length l.values)) (joined (part_for l.values) l.d))
