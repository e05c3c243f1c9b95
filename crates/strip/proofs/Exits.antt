-- What a call answers after another, whose refusal a `?` hands up.
use Rattle.std.proofs.Common.{◌≡◌, ◌∙◌, refl}
use Rattle.std.specs.Prelude.{Result, Ok, Err}
use Rattle.std.specs.Result.{IsErrAnd}
use Rattle.std.proofs.lemmas.Result.{err_from_is_err_and}
use Rattle.tree.specs.declared.nodes.Refusal.{Refusal as WalkRefusal}
use Rattle.tree.specs.declared.nodes.Refusal.TheVariants as walk
use Rattle.tree.specs.Times.{number_of, node_of, outcome as walked}
use Rattle.tree.specs.Outcomes.{Outcome, gives, refuses, after}
use Rattle.strip.specs.declared.refusals.Refusal.{Refusal}
use Rattle.strip.specs.Refusals.{refusal, outcome, of_walk}

-- the refusal is kept
pub handed-up : {B : Type 0} (r : Result B Refusal) (x : Refusal) → IsErrAnd r (λ y. y ≡ x) → outcome r ≡ refusal x
handed-up r x h = let p = err_from_is_err_and r h in rw (p.1, p.2)

-- it is what comes after the outcome that the callee told
pub refusal-after : {A B : Type 0} {a : Outcome A} (o : Result A Refusal) (x : Refusal) (f : A → Outcome B) → outcome o ≡ a → o ≡ Err x → refusal x ≡ after a f
refusal-after o x f e is = rw (← e, is)

pub after-refusal : {A B : Type 0} {a : Outcome A} (o : Result A Refusal) (r : Result B Refusal) (x : Refusal) (f : A → Outcome B)
    → outcome o ≡ a → o ≡ Err x → IsErrAnd r (λ y. y ≡ x) → outcome r ≡ after a f
after-refusal o r x f e is h = handed-up r x h ∙ refusal-after o x f e is

-- where the callee refuses nothing
pub after-given : {A B : Type 0} {a : Outcome A} (o : Result A Refusal) (x : A) (f : A → Outcome B) → outcome o ≡ a → o ≡ Ok x → f x ≡ after a f
after-given o x f e is = rw (← e, is)

-- ---- after a walk of the tree

-- its refusal keeps its number and what it carries
pub walk-told : {A : Type 0} (r : WalkRefusal) → refusal {A = A} (of_walk r) ≡ refuses (number_of r) (node_of r)
walk-told (walk.Fetch v) = refl
walk-told (walk.Time v) = refl

pub walk-refused : {A : Type 0} {a : Outcome A} (o : Result A WalkRefusal) (r : Result A Refusal) (x : WalkRefusal)
    → walked o ≡ a → o ≡ Err x → IsErrAnd r (λ y. y ≡ of_walk x) → outcome r ≡ a
walk-refused o r x e is h = let p = err_from_is_err_and r h in rw (p.1, p.2, ← e, is) (walk-told x)

pub walk-given : {A : Type 0} {a : Outcome A} (o : Result A WalkRefusal) (f : A) → walked o ≡ a → o ≡ Ok f → gives f ≡ a
walk-given o f e is = rw (← e, is)
