-- Sweeps: the nodes that many targets open in one walk, what a sweep answers by them, and the different nodes on the targets' paths.
use Rattle.std.specs.Prelude.{Bool, true, false, cond, ◌||◌, List, [], ◌∷◌, ◌++◌, ℕ, zero, suc, ◌+◌, eqb, ltb, length}
use Rattle.tree.specs.Shape.{child_of}
use Rattle.tree.specs.Outcomes.{Outcome, follow}
use Rattle.tree.specs.Walks.{met, is_below, search_nodes, position, kept_from, path}

-- the nodes still remembered, and the node to go on from
pub record Dropped : Type 0 where
  pub from : ℕ
  pub kept : List ℕ

-- Remembered nodes are dropped from the deepest up while their time is below the target. It goes on from the right child of the last
-- dropped; where none is dropped, from `from`.
unfoldable pub dropped : (ℕ → Bool) → ℕ → List ℕ → Dropped
dropped past from [] = record { from = from; kept = [] }
dropped past from (v ∷ vs) = cond (past v) (dropped past (child_of true v) vs) (record { from = from; kept = v ∷ vs })

-- what one target of a sweep does: the nodes that it opens, in order, and those that it leaves remembered
pub record Leg : Type 0 where
  pub nodes : List ℕ
  pub kept : List ℕ

abbrev pub leg : ℕ → (ℕ → Outcome ℕ) → ℕ → Dropped → Leg
leg n time t d = record { nodes = search_nodes n time t d.from; kept = kept_from n time t d.kept d.from }

-- One target after the other. The next one goes on from node `from`, unless it drops a remembered node; those after it only where they
-- drop one, since suc n is no node.
unfoldable pub legs_from : ℕ → (ℕ → Outcome ℕ) → ℕ → List ℕ → List ℕ → List Leg
legs_from n time from kept [] = []
legs_from n time from kept (t ∷ ts) = let l = leg n time t (dropped (is_below time t) from kept) in l ∷ legs_from n time (suc n) l.kept ts

-- the first target as search does
abbrev pub legs : ℕ → (ℕ → Outcome ℕ) → List ℕ → List Leg
legs n time ts = legs_from n time 1 [] ts

-- All nodes that they open, in order, as if none were refused. A call ends at the first that is: `met`.
unfoldable pub opened : List Leg → List ℕ
opened [] = []
opened (l ∷ ls) = l.nodes ++ opened ls

abbrev pub sweep_nodes : ℕ → (ℕ → Outcome ℕ) → List ℕ → List ℕ
sweep_nodes n time ts = opened (legs n time ts)

-- the nodes opened in all, or the first refusal
abbrev pub sweep_answer : ℕ → (ℕ → Outcome ℕ) → List ℕ → Outcome ℕ
sweep_answer n time ts = met time (sweep_nodes n time ts) (length (sweep_nodes n time ts))

-- the positions of the targets before the first that is refused
unfoldable pub positions : ℕ → (ℕ → Outcome ℕ) → List Leg → List ℕ
positions n time [] = []
positions n time (l ∷ ls) = follow (λ r c. []) (met time l.nodes (position n l.kept)) (λ p. p ∷ positions n time ls)

abbrev pub sweep_positions : ℕ → (ℕ → Outcome ℕ) → List ℕ → List ℕ
sweep_positions n time ts = positions n time (legs n time ts)

-- ---- different nodes

-- how often node v stands in a list
unfoldable pub occurrences : ℕ → List ℕ → ℕ
occurrences v [] = 0
occurrences v (u ∷ us) = cond (eqb v u) 1 0 + occurrences v us

-- node v is on the path of one of the targets
unfoldable pub on_path : List ℕ → List ℕ → ℕ → Bool
on_path xs [] v = false
on_path xs (t ∷ ts) v = ltb 0 (occurrences v (path xs t)) || on_path xs ts v

-- the sum of f over the numbers 1 to k
unfoldable pub sum_to : ℕ → (ℕ → ℕ) → ℕ
sum_to zero f = 0
sum_to (suc k) f = sum_to k f + f (suc k)

-- the sum of f over the different nodes on the paths of the targets, each once
abbrev pub over_different : List ℕ → List ℕ → (ℕ → ℕ) → ℕ
over_different xs ts f = sum_to (length xs) (λ v. cond (on_path xs ts v) (f v) 0)

-- their number
abbrev pub different : List ℕ → List ℕ → ℕ
different xs ts = over_different xs ts (λ v. 1)
