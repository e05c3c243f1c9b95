-- After d turns the first d entries have passed and their levels are entered; the entries from d on and the length are still to test. After
-- all `end` is the length that they tell.
use Rattle.std.proofs.Common.{◌≡◌, ◌+◌, ◌-◌, ◌*◌, ◌^◌, ◌≤◌, ◌++◌, ◌∷◌, []}
use Rattle.tree.specs.Shape.{height}
use Rattle.tree.specs.Outcomes.{verdict}
use Rattle.strip.specs.Layout.{code_at, length_at, parts_start, end_after, entered}
use Rattle.strip.specs.Opening.{entries_tests, length_test, level_tests, levels_in}
use Rattle.strip.proofs.opening.tree_of.Given as goal

abbrev pub invariant-loop-d : goal.invariant-loop-d
invariant-loop-d l =
    (l.d-end ≡ height l.n) × (l.d-end ≤ 16) × (l.end ≤ 87 + l.d * 2 ^ 32)
    × (l.end ≡ end_after (parts_start l.n) (length_at l.s) l.d)
    × (l.levels ≡ entered l.n (code_at l.s) (length_at l.s) l.d)
    × (verdict (level_tests l.s) (levels_in l.s) ≡ verdict (entries_tests l.s (l.d-end - l.d) l.d ++ (length_test l.s ∷ [])) (levels_in l.s))
