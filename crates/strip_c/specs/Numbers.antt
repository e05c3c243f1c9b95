-- The answers of the calls as numbers: three, but for rank.
use Rattle.std.specs.Prelude.{ℕ, Option, Some, None}
use Rattle.tree.specs.declared.walking.Found.{Found}
use Rattle.tree.specs.Outcomes.{Outcome, follow}
use Rattle.strip_c.specs.declared.Answer.{Answer}

-- 0, what is given and the nodes opened
abbrev pub given : ℕ → ℕ → Answer
given x k = record { refusal = 0; value = x; nodes = k }

-- the number of a refusal, what it carries and 0
abbrev pub refused : ℕ → ℕ → Answer
refused r c = record { refusal = r; value = c; nodes = 0 }

-- of a walk, or the refusal
abbrev pub of_walk : Outcome Found → Answer
of_walk o = follow refused o (λ f. given f.value f.nodes)

-- of a call that opens no nodes
abbrev pub of_number : Outcome ℕ → Answer
of_number o = follow refused o (λ x. given x 0)

-- of a sweep, which gives its nodes alone
abbrev pub of_sweep : Outcome ℕ → Answer
of_sweep o = follow refused o (λ k. given 0 k)

-- of repeat: a position from 1 on, or 0 for none
abbrev pub position_or0 : Option ℕ → ℕ
position_or0 None = 0
position_or0 (Some i) = i

abbrev pub of_repeat : Outcome (Option ℕ) → Answer
of_repeat o = follow refused o (λ x. given (position_or0 x) 0)

-- of a step of a pin walker: no nodes for end, which opens none
abbrev pub found_or0 : Option Found → Answer
found_or0 None = given 0 0
found_or0 (Some f) = given f.value f.nodes

abbrev pub of_step : Outcome (Option Found) → Answer
of_step o = follow refused o found_or0

-- of rank: a position, or n where there is no such node
abbrev pub position_or : ℕ → Option ℕ → ℕ
position_or n (Some i) = i
position_or n None = n
