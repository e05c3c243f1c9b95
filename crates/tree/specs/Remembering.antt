-- How far a sweep has come, with the nodes that it remembers, as the functions keep it.
use Rattle.std.specs.Prelude.{Result, Ok, Err, ◌≡◌, List, [], ◌∷◌, ℕ, zero, suc, ◌+◌, ◌-◌, ◌/◌, ◌≤◌, ◌<◌, ◌^◌, length, get_or}
use Rattle.tree.specs.declared.nodes.Levels.{Levels}
use Rattle.tree.specs.declared.nodes.Refusal.{Refusal}
use Rattle.tree.specs.declared.targets.Remembered.{Remembered}
use Rattle.tree.specs.declared.targets.Progress.{Progress}
use Rattle.tree.specs.Shape.{height, stretch}
use Rattle.tree.specs.declared.walking.Found.{Found}
use Rattle.tree.specs.Outcomes.{Outcome, gives}
use Rattle.tree.specs.Times.{refusal, times_in}
use Rattle.tree.specs.Walks.{is_below, position, kept_from, target_from}
use Rattle.tree.specs.Sweeps.{dropped}
use Rattle.tree.specs.Standing.{Stands}

-- what stands where nothing is remembered
abbrev pub empty : Remembered
empty = record { v = 0; time = 0 }

-- the first c entries, the last first: the remembered nodes, the deepest first
unfoldable pub entries : List Remembered → ℕ → List ℕ
entries xs zero = []
entries xs (suc c) = (get_or xs c empty).v ∷ entries xs c

-- A sweep stands at number v, the root or a node's child, with the time above it, and remembers i nodes: the number's stretch ends at the
-- deepest of them, or at n.
pub record Place (levels : Levels) (s kept : List ℕ) (i v above : ℕ) : Type 0 where
  pub stands : Stands levels s v (height v - 1) (stretch levels.pins v) above
  pub child : v / 2 ≤ levels.pins
  pub ends : (stretch levels.pins v).start + (stretch levels.pins v).pins ≡ position levels.pins kept
  pub deep : i < height v

-- a remembered node, where a sweep stood, with its time
pub record Entry (levels : Levels) (s kept : List ℕ) (i : ℕ) (node : Remembered) : Type 0 where
  pub above : ℕ
  pub place : Place levels s kept i node.v above
  pub among : node.v ≤ levels.pins
  pub time : times_in levels s node.v ≡ gives node.time

-- a sweep that has come so far can go on: each node opened is remembered or before the stretch where it stands
pub record GoesOn (levels : Levels) (s : List ℕ) (p : Progress) : Type 0 where
  pub size : length p.kept ≡ 16
  pub entry : (i : ℕ) → i < p.count → Entry levels s (entries p.kept i) i (get_or p.kept i empty)
  pub place : Place levels s (entries p.kept p.count) p.count p.v p.above
  pub few : p.opened ≤ (stretch levels.pins p.v).start + p.count

-- no more are remembered than there is room for, and the numbers of their children fit
pub record Remembers (p : Progress) : Type 0 where
  pub few : p.count ≤ 16
  pub small : (i : ℕ) → i < p.count → (get_or p.kept i empty).v < 2 ^ 63

-- p with what target t drops dropped, in one tree: where the target goes on
pub record ResumesIn (levels : Levels) (s : List ℕ) (t : ℕ) (p q : Progress) : Type 0 where
  pub goes : GoesOn levels s q
  pub drops : dropped (is_below (times_in levels s) t) p.v (entries p.kept p.count) ≡ record { from = q.v; kept = entries q.kept q.count }
  pub same : q.opened ≡ p.opened

-- in any
abbrev pub Resumes : ℕ → Progress → Progress → Type 0
Resumes t p q = (levels : Levels) (s : List ℕ) → GoesOn levels s p → ResumesIn levels s t p q

-- what target t answers that goes on from there
abbrev pub answer_on : Levels → List ℕ → ℕ → Progress → Outcome Found
answer_on levels s t p = target_from levels.pins (times_in levels s) t (entries p.kept p.count) p.opened p.v

-- what it leaves remembered
abbrev pub kept_on : Levels → List ℕ → ℕ → Progress → List ℕ
kept_on levels s t p = kept_from levels.pins (times_in levels s) t (entries p.kept p.count) p.v

-- target t has come from `from` to p
pub record Comes (levels : Levels) (s : List ℕ) (t : ℕ) (from p : Progress) : Type 0 where
  pub goes : GoesOn levels s p
  pub answer : answer_on levels s t p ≡ answer_on levels s t from
  pub kept : kept_on levels s t p ≡ kept_on levels s t from

-- it ends at a missing child, or is refused
abbrev pub Leaves : Levels → List ℕ → ℕ → Progress → Progress → Result (Unit {0}) Refusal → Type 0
Leaves levels s t from p (Ok _) = Comes levels s t from p × (levels.pins < p.v)
Leaves levels s t from p (Err r) = answer_on levels s t from ≡ refusal r
