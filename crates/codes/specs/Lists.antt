-- Lists: a test, and what a buffer holds.
use Rattle.std.specs.Prelude.{ℕ, ◌+◌, ◌-◌, Bool, true, false, ◌&&◌, List, [], ◌∷◌, ◌++◌, length, take, drop, replicate, ◌==◌}

-- whether two lists are the same
abbrev pub same : List ℕ → List ℕ → Bool
same [] [] = true
same [] (y ∷ ys) = false
same (x ∷ xs) [] = false
same (x ∷ xs) (y ∷ ys) = x == y && same xs ys

-- a buffer with these entries at the front, and later ones as they were
abbrev pub at_front : List ℕ → List ℕ → List ℕ
at_front entries out = entries ++ drop (length entries) out

-- a buffer with these entries from entry a on
abbrev pub replaced : List ℕ → ℕ → List ℕ → List ℕ
replaced out a entries = take a out ++ entries ++ drop (a + length entries) out

-- a buffer of n entries with these at the front, and 0 after them
abbrev pub filled_to : ℕ → List ℕ → List ℕ
filled_to n entries = entries ++ replicate (n - length entries) 0
