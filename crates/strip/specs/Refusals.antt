-- The number of 01 or 02 for each refusal of the code, and what it carries; and what the answers of the code say.
use Rattle.std.specs.Prelude.{ℕ, Result, Ok, Err}
use Rattle.tree.specs.declared.nodes.Refusal.{Refusal as WalkRefusal}
use Rattle.tree.specs.declared.nodes.Refusal.TheVariants as walk
use Rattle.tree.specs.Outcomes.{Outcome, gives, refuses}
use Rattle.strip.specs.declared.refusals.Refusal.{Refusal}
use Rattle.strip.specs.declared.refusals.Refusal.TheVariants.{Empty, TooMany, ListFalls, Short, Cut, Mark, Version, Code, Fetch, Time, TimesFall, Image, Length, Position, Answers, TargetsFall, LevelLength}

abbrev pub refusal_number : Refusal → ℕ
refusal_number Empty = 1
refusal_number TooMany = 2
refusal_number (ListFalls i) = 3
refusal_number (Short needed) = 4
refusal_number Cut = 5
refusal_number Mark = 6
refusal_number Version = 7
refusal_number (Code level) = 8
refusal_number (Fetch node) = 9
refusal_number (Time node) = 10
refusal_number (TimesFall i) = 11
refusal_number Image = 12
refusal_number Length = 13
refusal_number Position = 14
refusal_number Answers = 15
refusal_number (TargetsFall i) = 16
refusal_number (LevelLength level) = 23

abbrev pub carried : Refusal → ℕ
carried Empty = 0
carried TooMany = 0
carried (ListFalls i) = i
carried (Short needed) = needed
carried Cut = 0
carried Mark = 0
carried Version = 0
carried (Code level) = level
carried (Fetch node) = node
carried (Time node) = node
carried (TimesFall i) = i
carried Image = 0
carried Length = 0
carried Position = 0
carried Answers = 0
carried (TargetsFall i) = i
carried (LevelLength level) = level

-- as an outcome
abbrev pub refusal : {A : Type 0} → Refusal → Outcome A
refusal r = refuses (refusal_number r) (carried r)

-- an answer of the code
abbrev pub outcome : {A : Type 0} → Result A Refusal → Outcome A
outcome (Ok a) = gives a
outcome (Err r) = refusal r

-- a walk's refusal as a strip's
abbrev pub of_walk : WalkRefusal → Refusal
of_walk (walk.Fetch v) = Fetch v
of_walk (walk.Time v) = Time v
