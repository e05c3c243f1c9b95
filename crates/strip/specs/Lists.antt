-- Lists of times, as the calls ask about them.
use Rattle.std.specs.Prelude.{cond, List, [], ◌∷◌, ℕ, suc, ◌+◌, ◌-◌, ltb, leb, Option, None, Some}

-- the first position with a lower time than the one before, or the length where the list is ordered
unfoldable pub first_lower : List ℕ → ℕ
first_lower [] = 0
first_lower (x ∷ []) = 1
first_lower (x ∷ y ∷ ys) = cond (ltb y x) 1 (suc (first_lower (y ∷ ys)))

-- the number of times at or before t
unfoldable pub up_to : ℕ → List ℕ → ℕ
up_to t [] = 0
up_to t (x ∷ xs) = cond (leb x t) 1 0 + up_to t xs

-- of a list whose first position is i, the first later one whose time less the one before is below r
unfoldable pub gap_from : ℕ → ℕ → List ℕ → Option ℕ
gap_from r i [] = None
gap_from r i (x ∷ []) = None
gap_from r i (x ∷ y ∷ ys) = cond (ltb (y - x) r) (Some (suc i)) (gap_from r (suc i) (y ∷ ys))

-- the first i ≥ 1 with time i minus time i - 1 below r, or none
abbrev pub first_gap : ℕ → List ℕ → Option ℕ
first_gap r xs = gap_from r 0 xs
