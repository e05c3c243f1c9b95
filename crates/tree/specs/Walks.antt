-- Walks down the tree: the nodes that they open, in order, and what access and search answer by them.
use Rattle.std.specs.Prelude.{Bool, false, cond, List, [], ◌∷◌, map, ℕ, zero, suc, ◌+◌, ◌-◌, ◌/◌, ◌≤◌, eqb, ltb, length}
use Rattle.tree.specs.declared.walking.Found.{Found}
use Rattle.tree.specs.Shape.{height, child_of, rank}
use Rattle.tree.specs.Stored.{time_of}
use Rattle.tree.specs.Outcomes.{Outcome, known, verdict}

-- A walk asks two things of a node: does it end here, and if not, does it leave by the right side? `stop v` and `past v` are
-- the answers for node v. These are the nodes that it opens from node v on, until no child, f at most.
unfoldable pub walk_in : ℕ → ℕ → (ℕ → Bool) → (ℕ → Bool) → ℕ → List ℕ
walk_in zero n stop past v = []
walk_in (suc f) n stop past v =
    let later = walk_in f n stop past (child_of (past v) v) in
    cond (ltb n v) [] (v ∷ cond (stop v) [] later)

-- one node on each level from that of v on; `walk-on` in proofs/Walks has the equation without their number
unfoldable pub walk : ℕ → (ℕ → Bool) → (ℕ → Bool) → ℕ → List ℕ
walk n stop past v = walk_in (suc (height n) - height v) n stop past v

-- these are nodes of 1 to n
unfoldable pub Among : ℕ → List ℕ → Type 0
Among n [] = Unit {0}
Among n (v ∷ vs) = (1 ≤ v) × (v ≤ n) × Among n vs

-- what comes of opening these nodes in this order: the first refusal of a node's time, or else what is given
unfoldable pub met : {A : Type 0} → (ℕ → Outcome ℕ) → List ℕ → A → Outcome A
met time nodes a = verdict (map time nodes) a

-- what a walk gives: what was asked for, and the nodes opened
abbrev pub found : ℕ → ℕ → Found
found x k = record { value = x; nodes = k }

-- ---- access

-- the nodes from node v to the one of rank i
abbrev pub toward_from : ℕ → ℕ → ℕ → List ℕ
toward_from n i v = walk n (λ u. eqb (rank n u) i) (λ u. ltb (rank n u) i) v

-- from the root
unfoldable pub toward : ℕ → ℕ → List ℕ
toward n i = toward_from n i 1

unfoldable pub last_of : ℕ → List ℕ → ℕ
last_of d [] = d
last_of d (v ∷ vs) = last_of v vs

-- the time of the last node
unfoldable pub access_answer : ℕ → (ℕ → Outcome ℕ) → ℕ → Outcome Found
access_answer n time i = let nodes = toward n i in met time nodes (found (known (time (last_of 0 nodes))) (length nodes))

-- ---- search

abbrev pub never : ℕ → Bool
never v = false

-- the node's time is below t
abbrev pub is_below : (ℕ → Outcome ℕ) → ℕ → ℕ → Bool
is_below time t v = ltb (known (time v)) t

-- from node v, left where the node's time is at or above t, else right, until no child
abbrev pub search_nodes : ℕ → (ℕ → Outcome ℕ) → ℕ → ℕ → List ℕ
search_nodes n time t v = walk n never (is_below time t) v

-- the nodes left by their left side, the deepest first, then those remembered before
unfoldable pub remember : (ℕ → Bool) → List ℕ → List ℕ → List ℕ
remember past [] kept = kept
remember past (v ∷ vs) kept = remember past vs (cond (past v) kept (v ∷ kept))

-- the rank of the last node left by its left side, which is the deepest remembered, or n
abbrev pub position : ℕ → List ℕ → ℕ
position n [] = n
position n (v ∷ vs) = rank n v

-- what target t leaves remembered that goes on from node v, with these nodes remembered before
abbrev pub kept_from : ℕ → (ℕ → Outcome ℕ) → ℕ → List ℕ → ℕ → List ℕ
kept_from n time t kept v = remember (is_below time t) (search_nodes n time t v) kept

-- what it answers, with k nodes opened before
unfoldable pub target_from : ℕ → (ℕ → Outcome ℕ) → ℕ → List ℕ → ℕ → ℕ → Outcome Found
target_from n time t kept k v =
    let nodes = search_nodes n time t v in
    met time nodes (found (position n (kept_from n time t kept v)) (k + length nodes))

-- from the root
abbrev pub search_answer : ℕ → (ℕ → Outcome ℕ) → ℕ → Outcome Found
search_answer n time t = target_from n time t [] 0 1

-- The path of target t on the tree of a list: to the left child where the list's time at the node's rank is at or above t, else
-- to the right child, until that child is not among the nodes.
unfoldable pub path : List ℕ → ℕ → List ℕ
path xs t = walk (length xs) never (λ v. ltb (time_of xs v) t) 1

-- ---- from the root to a node

unfoldable pub from_root_in : ℕ → ℕ → List ℕ → List ℕ
from_root_in zero v below = below
from_root_in (suc f) v below = from_root_in f (v / 2) (v ∷ below)

-- the nodes from the root to node v, one for each binary digit of v
abbrev pub from_root : ℕ → List ℕ
from_root v = from_root_in (height v) v []
