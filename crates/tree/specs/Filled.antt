-- What `fill` promises of the buffer that it works in.
use Rattle.std.specs.Prelude.{◌≡◌, ◌⊎◌, Bool, List, ℕ, suc, ◌<◌, length, get_or}
use Rattle.tree.specs.Shape.{child_of}
use Rattle.tree.specs.Stored.{stored}

-- node u stands in the subtree of node w
pub data Under : ℕ → ℕ → Type 0 where
  here : {w u : ℕ} → w ≡ u → Under w u
  below : {w u : ℕ} (right : Bool) → Under (child_of right w) u → Under w u

-- entry i is unchanged, or is what its node stores
abbrev pub Correct : List ℕ → ℕ → ℕ → ℕ → Type 0
Correct xs i was is = (is ≡ was) ⊎ ((i < length xs) × (is ≡ stored xs (suc i)))

-- every node under node w has its stored value, and no entry is wrong
pub record Filled (xs : List ℕ) (w : ℕ) (before after : List ℕ) : Type 0 where
  pub kept : length after ≡ length before
  pub done : (i : ℕ) → Under w (suc i) → i < length xs → get_or after i 0 ≡ stored xs (suc i)
  pub others : (i : ℕ) → Correct xs i (get_or before i 0) (get_or after i 0)
