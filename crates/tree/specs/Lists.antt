-- Lists of times.
use Rattle.std.specs.Prelude.{Bool, true, false, cond, List, [], ◌∷◌, ℕ, ◌+◌, ltb, leb}

-- none less than the one before
unfoldable pub ordered : List ℕ → Bool
ordered [] = true
ordered (x ∷ []) = true
ordered (x ∷ y ∷ ys) = cond (leb x y) (ordered (y ∷ ys)) false

-- the number of times smaller than t
unfoldable pub smaller : ℕ → List ℕ → ℕ
smaller t [] = 0
smaller t (x ∷ xs) = cond (ltb x t) 1 0 + smaller t xs
