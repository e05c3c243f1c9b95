-- Listing: the times at the positions from 0 on, up to the first that access refuses.
use Rattle.std.specs.Prelude.{Result, Ok, Err, ◌≡◌, List, [], ◌∷◌, ℕ, zero, suc, ◌+◌, length}
use Rattle.tree.specs.declared.listing.Stop.{Stop}
use Rattle.tree.specs.declared.nodes.Levels.{Levels}
use Rattle.tree.specs.declared.walking.Found.{Found}
use Rattle.tree.specs.Outcomes.{Outcome, gives, follow, after, Test}
use Rattle.tree.specs.Times.{refusal, times_in}
use Rattle.tree.specs.Walks.{access_answer}

-- what access answers at each position, by the parts of the levels
abbrev pub accesses : Levels → List ℕ → ℕ → Outcome Found
accesses levels s = access_answer levels.pins (times_in levels s)

-- the times of k positions from i on, as far as access is not refused
unfoldable pub times_from : (ℕ → Outcome Found) → ℕ → ℕ → List ℕ
times_from answer zero i = []
times_from answer (suc k) i = follow (λ r c. []) (answer i) (λ f. f.value ∷ times_from answer k (suc i))

-- the first refusal at these positions, if any
unfoldable pub stop_from : (ℕ → Outcome Found) → ℕ → ℕ → Test
stop_from answer zero i = gives tt
stop_from answer (suc k) i = after (answer i) (λ f. stop_from answer k (suc i))

-- all positions: the times
abbrev pub times_all : Levels → List ℕ → List ℕ
times_all levels s = times_from (accesses levels s) levels.pins 0

-- and the first refusal
abbrev pub stop_all : Levels → List ℕ → Test
stop_all levels s = stop_from (accesses levels s) levels.pins 0

-- the answer of the code
abbrev pub listed : Result (Unit {0}) Stop → Test
listed (Ok _) = gives tt
listed (Err s) = refusal s.refusal

-- the position where it ends, of those before `last`
abbrev pub end_of : Result (Unit {0}) Stop → ℕ → ℕ
end_of (Ok _) last = last
end_of (Err s) last = s.position

-- it tells the first refusal at k positions from i on, and ends behind the times before it
pub record Lists (answer : ℕ → Outcome Found) (k i : ℕ) (r : Result (Unit {0}) Stop) : Type 0 where
  pub outcome : listed r ≡ stop_from answer k i
  pub ends : end_of r (i + k) ≡ i + length (times_from answer k i)
