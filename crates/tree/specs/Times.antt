-- The times that are found going down, any of which may be refused.
use Rattle.std.specs.Prelude.{Result, Ok, Err, cond, List, ℕ, zero, suc, ◌+◌, ◌-◌, ◌/◌, ◌%◌, ◌^◌, eqb, ltb}
use Rattle.codes.specs.Fetch.{Fetched, value, outside}
use Rattle.tree.specs.declared.nodes.Levels.{Levels}
use Rattle.tree.specs.declared.nodes.Refusal.{Refusal}
use Rattle.tree.specs.declared.nodes.Refusal.TheVariants as refusals
use Rattle.tree.specs.Shape.{height}
use Rattle.tree.specs.Levels.{fetched_at}
use Rattle.tree.specs.Outcomes.{Outcome, gives, refuses}

-- 01's number for a refusal of the code, and the node that it carries
abbrev pub number_of : Refusal → ℕ
number_of (refusals.Fetch v) = 9
number_of (refusals.Time v) = 10

abbrev pub node_of : Refusal → ℕ
node_of (refusals.Fetch v) = v
node_of (refusals.Time v) = v

-- as an outcome
abbrev pub refusal : {A : Type 0} → Refusal → Outcome A
refusal r = refuses (number_of r) (node_of r)

-- the answer of the code
abbrev pub outcome : {A : Type 0} → Result A Refusal → Outcome A
outcome (Ok a) = gives a
outcome (Err r) = refusal r

-- Node v's time by its parent's and by what is fetched for it. A fetch that fails is refusal 9, a time below 0 or above
-- 4,294,967,295 refusal 10.
abbrev pub under : ℕ → Outcome ℕ → Fetched → Outcome ℕ
under v (refuses r u) x = refuses r u
under v (gives p) outside = refuses 9 v
under v (gives p) (value d) =
    cond (eqb (v % 2) 0)
    (cond (ltb p d) (refuses 10 v) (gives (p - d)))
    (cond (ltb (p + d) (2 ^ 32)) (gives (p + d)) (refuses 10 v))

-- by the parent's time, f times; above the root the time is 0
unfoldable pub node_time_in : ℕ → (ℕ → Fetched) → ℕ → Outcome ℕ
node_time_in zero fetch v = gives 0
node_time_in (suc f) fetch v = under v (node_time_in f fetch (v / 2)) (fetch v)

-- The time of node v by what is fetched for the nodes down to it, of which there is one on each level; `time-step` in
-- proofs/NodeTimes has the equation without their number.
unfoldable pub node_time : (ℕ → Fetched) → ℕ → Outcome ℕ
node_time fetch v = node_time_in (height v) fetch v

-- the time of each node, from the parts of the levels alone
abbrev pub times_in : Levels → List ℕ → ℕ → Outcome ℕ
times_in levels s = node_time (fetched_at levels s)
