-- What the functions behind check, unpack and repeat answer.
use Rattle.std.specs.Prelude.{not, cond, List, [], ◌∷◌, ℕ, suc, ◌+◌, ◌-◌, ltb, length, get_or, Option, Some}
use Rattle.tree.specs.declared.nodes.Levels.{Levels}
use Rattle.tree.specs.Lists.{ordered}
use Rattle.tree.specs.Outcomes.{Outcome, gives, refuses, Test, test, verdict, after}
use Rattle.tree.specs.Chosen.{all_chosen}
use Rattle.strip.specs.Lists.{first_lower}
use Rattle.strip.specs.Calls.{room_for, check_in}

-- unpack's answer for a strip that is open
abbrev pub unpack_in : List ℕ → ℕ → Levels → Outcome ℕ
unpack_in s room levels = after (check_in s levels) (room_for room)

-- the first position with a time before the one before it plus r, or the length; for r = 0 the first lower one
unfoldable pub first_near : ℕ → List ℕ → ℕ
first_near r [] = 0
first_near r (x ∷ []) = 1
first_near r (x ∷ y ∷ ys) = cond (ltb y (x + r)) 1 (suc (first_near r (y ∷ ys)))

-- what repeat answers at such a position: 11 where its time is lower than the one before, otherwise the position
abbrev pub gap_at : List ℕ → ℕ → Outcome (Option ℕ)
gap_at xs i = cond (ltb (get_or xs i 0) (get_or xs (i - 1) 0)) (refuses 11 i) (gives (Some i))

-- the first such position of these, or else `end`
abbrev pub gap_or : ℕ → List ℕ → Outcome (Option ℕ) → Outcome (Option ℕ)
gap_or r xs end = cond (ltb (first_near r xs) (length xs)) (gap_at xs (first_near r xs)) end

-- 11: a time lower than the one before
abbrev pub falls_test : List ℕ → Test
falls_test xs = test (not (ordered xs)) 11 (first_lower xs)

-- 12, told by the levels: one is not what pack writes
abbrev pub image_in : List ℕ → Levels → Outcome ℕ
image_in s levels = verdict (test (not (all_chosen levels s)) 12 0 ∷ []) levels.pins
