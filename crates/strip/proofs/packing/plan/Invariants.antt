-- After d turns the first d levels are entered, each with its chosen code and with where a part of the chosen size ends.
use Rattle.std.proofs.Common.{◌≡◌, ◌+◌, ◌*◌, ◌^◌, ◌≤◌}
use Rattle.codes.specs.Codes.{Within}
use Rattle.tree.specs.Shape.{height}
use Rattle.strip.specs.Layout.{parts_start, end_after, entered}
use Rattle.strip.specs.Image.{code_for, length_for}
use Rattle.strip.proofs.packing.plan.Given as goal

abbrev pub invariant-loop-d : goal.invariant-loop-d
invariant-loop-d l =
    (l.d-end ≡ height l.n) × (l.d-end ≤ 16) × (l.end ≤ 87 + l.d * 2 ^ 32) × (l.end ≡ end_after (parts_start l.n) (length_for l.values) l.d)
    × (l.levels ≡ entered l.n (code_for l.values) (length_for l.values) l.d) × Within 32 l.values
