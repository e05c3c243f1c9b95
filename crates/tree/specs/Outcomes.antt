-- What is given, or a refusal: of a node's time, of a walk, of a call.
use Rattle.std.specs.Prelude.{Bool, cond, List, [], ◌∷◌, ℕ}

-- a refusal has its number in 01 or 02, and what it carries
pub data Outcome (A : Type 0) : Type 0 where
  gives : A → Outcome A
  refuses : ℕ → ℕ → Outcome A

-- what follows an outcome: f of what is given, or the refusal as `refusal` tells it
abbrev pub follow : {A B : Type 0} → (ℕ → ℕ → B) → Outcome A → (A → B) → B
follow refusal (gives a) f = f a
follow refusal (refuses r c) f = refusal r c

-- another outcome
abbrev pub after : {A B : Type 0} → Outcome A → (A → Outcome B) → Outcome B
after o f = follow refuses o f

-- a number that is given; where it is refused the call ends, and nothing is asked of it
abbrev pub known : Outcome ℕ → ℕ
known o = follow (λ r c. 0) o (λ x. x)

-- a test gives nothing, or refuses
abbrev pub Test : Type 0
Test = Outcome (Unit {0})

-- a condition of 01 or 02, with the number and what it carries
unfoldable pub test : Bool → ℕ → ℕ → Test
test holds r c = cond holds (refuses r c) (gives tt)

-- the first refusal among outcomes, in their order, or else what is given
unfoldable pub verdict : {A B : Type 0} → List (Outcome B) → A → Outcome A
verdict [] a = gives a
verdict (o ∷ os) a = after o (λ _. verdict os a)
