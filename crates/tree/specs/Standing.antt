-- Where a walk stands, as the functions that go down the tree keep it.
use Rattle.std.specs.Prelude.{Result, ◌≡◌, List, ℕ, ◌+◌, ◌*◌, ◌/◌, ◌^◌, ◌≤◌, ◌<◌, length}
use Rattle.tree.specs.declared.shape.Stretch.{Stretch}
use Rattle.codes.specs.declared.marking.Mark.{Mark}
use Rattle.tree.specs.declared.nodes.Levels.{Levels}
use Rattle.tree.specs.declared.nodes.Refusal.{Refusal}
use Rattle.tree.specs.Shape.{stretch}
use Rattle.tree.specs.Levels.{fetched_at}
use Rattle.tree.specs.LevelMarks.{LevelMarks}
use Rattle.tree.specs.declared.walking.Found.{Found}
use Rattle.tree.specs.Outcomes.{Outcome, gives, known}
use Rattle.tree.specs.Times.{outcome, under, times_in}
use Rattle.tree.specs.Walks.{found, met, toward_from, last_of}
use Rattle.tree.specs.Listing.{accesses}

-- at node v, `depth` levels down, with the stretch under it and its parent's time
pub record Stands (levels : Levels) (s : List ℕ) (v depth : ℕ) (here : Stretch) (above : ℕ) : Type 0 where
  pub one : 1 ≤ v
  pub low : 2 ^ depth ≤ v
  pub high : v < 2 * 2 ^ depth
  pub under : stretch levels.pins v ≡ here
  pub inside : here.start + here.pins ≤ levels.pins
  pub parent : times_in levels s (v / 2) ≡ gives above

-- node v, `depth` levels down, can be opened, with these marks
pub record Openable (levels : Levels) (s : List ℕ) (ms : List Mark) (depth v : ℕ) : Type 0 where
  pub marks : LevelMarks levels.ends s ms
  pub low : 2 ^ depth ≤ v
  pub high : v < 2 * 2 ^ depth
  pub among : v ≤ levels.pins

-- what comes of it, with the time `above` above it, and the marks after that
pub record Opens (levels : Levels) (s : List ℕ) (ms : List Mark) (above v : ℕ) (r : Result ℕ Refusal) : Type 0 where
  pub time : outcome r ≡ under v (gives above) (fetched_at levels s v)
  pub marks : LevelMarks levels.ends s ms

-- what an access at i answers that goes on from node v, with k nodes opened
abbrev pub access_from : ℕ → (ℕ → Outcome ℕ) → ℕ → ℕ → ℕ → Outcome Found
access_from n time i k v =
    let nodes = toward_from n i v in
    met time nodes (found (known (time (last_of (v / 2) nodes))) (k + length nodes))

-- accesses to the stretch under node v come to it
abbrev pub Reaches : Levels → List ℕ → ℕ → ℕ → Stretch → Type 0
Reaches levels s v depth here =
    (i : ℕ) → here.start ≤ i → i < here.start + here.pins
    → access_from levels.pins (times_in levels s) i depth v ≡ accesses levels s i
