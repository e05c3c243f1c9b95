-- A level merged into the list of the nodes above it, as the functions that list a tree keep it. With `above` nodes above a level, its
-- node i, counted from 0, stands before entry i of their list, from which it hangs where i is even, and after entry i - 1, from which it
-- hangs where i is odd.
use Rattle.std.specs.Prelude.{◌≡◌, List, ℕ, suc, ◌+◌, ◌-◌, ◌*◌, ◌/◌, ◌≤◌, ◌<◌, min, length, get_or}
use Rattle.codes.specs.Fetch.{value}
use Rattle.tree.specs.declared.nodes.Levels.{Levels}
use Rattle.tree.specs.Shape.{rank}
use Rattle.tree.specs.Levels.{fetched_at}
use Rattle.tree.specs.Outcomes.{gives}
use Rattle.tree.specs.Times.{under, times_in}

-- what is fetched for the first nodes, in node order: entry v - 1 is node v's
abbrev pub KnownValues : Levels → List ℕ → List ℕ → Type 0
KnownValues levels s values = (v : ℕ) → 1 ≤ v → v ≤ length values → fetched_at levels s v ≡ value (get_or values (v - 1) 0)

-- the times of the first k nodes, at their ranks in the tree of these
abbrev pub KnownRanks : Levels → List ℕ → ℕ → List ℕ → Type 0
KnownRanks levels s k times = (v : ℕ) → 1 ≤ v → v ≤ k → times_in levels s v ≡ gives (get_or times (rank k v) 0)

-- the level's nodes from j on are in place, with the entries that follow those before them
pub record MergedFrom (before stored : List ℕ) (above j : ℕ) (now : List ℕ) : Type 0 where
  pub kept : length now ≡ length before
  pub unread : (i : ℕ) → suc i < 2 * j → get_or now i 0 ≡ get_or before i 0
  pub nodes : (i : ℕ) → j ≤ i → i < length stored
      → gives (get_or now (2 * i) 0) ≡ under (suc above + i) (gives (get_or before (i / 2 * 2) 0)) (value (get_or stored i 0))
  pub entries : (r : ℕ) → j ≤ suc r → r < above → get_or now (r + min (suc r) (length stored)) 0 ≡ get_or before r 0

-- a step of the merge, from node `next` down to node j
abbrev pub Merges : List ℕ → ℕ → ℕ → List ℕ → List ℕ → Type 0
Merges stored next j was now =
    (before : List ℕ) (above : ℕ) → above / 2 * 2 + 1 ≡ above → length stored ≤ suc above → above + length stored ≤ length before
    → MergedFrom before stored above next was → MergedFrom before stored above j now

-- what the nodes store has become the list of their times
abbrev pub AllMerged : List ℕ → List ℕ → Type 0
AllMerged values now = (levels : Levels) (s : List ℕ) → KnownValues levels s values → KnownRanks levels s (length values) now
