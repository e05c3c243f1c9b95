-- What the nodes of a list's tree store.
use Rattle.std.specs.Prelude.{cond, List, [], ◌∷◌, ℕ, zero, suc, ◌-◌, ◌/◌, ◌%◌, eqb, ltb, length, get_or}
use Rattle.tree.specs.Shape.{rank}

-- the time of node v
unfoldable pub time_of : List ℕ → ℕ → ℕ
time_of xs v = get_or xs (rank (length xs) v) 0

-- the time of its parent; above the root the time is 0
unfoldable pub time_above : List ℕ → ℕ → ℕ
time_above xs v = cond (ltb v 2) 0 (time_of xs (v / 2))

-- A left child stores parent minus child, a right child child minus parent. Node 1, by its odd number, stores its time.
abbrev pub difference : ℕ → ℕ → ℕ → ℕ
difference v above time = cond (eqb (v % 2) 0) (above - time) (time - above)

unfoldable pub stored : List ℕ → ℕ → ℕ
stored xs v = difference v (time_above xs v) (time_of xs v)

-- of k nodes from node v on
unfoldable pub stored_from : List ℕ → ℕ → ℕ → List ℕ
stored_from xs zero v = []
stored_from xs (suc k) v = stored xs v ∷ stored_from xs k (suc v)

-- in node order
abbrev pub stored_values : List ℕ → List ℕ
stored_values xs = stored_from xs (length xs) 1
