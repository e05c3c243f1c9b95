-- The first refusal among outcomes decides; where there is none the value is given.
use Rattle.std.proofs.Common.{◌≡◌, refl, sym, List, [], ◌∷◌, ◌++◌, append-nil, ℕ, arith}
use Rattle.tree.specs.Outcomes.{Outcome, gives, refuses, after, verdict}

-- what is given is not refused, and is one thing
pub gives_same : {A : Type 0} {a b : A} → gives a ≡ gives b → a ≡ b
gives_same e = cc

pub gives-refuses : {A : Type 0} {a : A} {r c : ℕ} → gives a ≡ refuses r c → ⊥
gives-refuses e = let z : ◌≡◌ {A = ℕ} 0 1 = cc in omega arith

-- outcomes after those that lead to b
pub verdict-append : {A B C : Type 0} (os us : List (Outcome C)) (a : A) (b : B) → verdict (os ++ us) a ≡ after (verdict os b) (λ _. verdict us a)
unfolding verdict
verdict-append [] us a b = refl
verdict-append (gives x ∷ os) us a b = verdict-append os us a b
verdict-append (refuses r c ∷ os) us a b = refl

-- what is given does not decide
pub verdict-other : {A B C : Type 0} (os : List (Outcome C)) (a : A) (b : B) → verdict os a ≡ after (verdict os b) (λ _. gives a)
unfolding verdict
verdict-other os a b = rw (append-nil os) at (verdict-append os [] a b)

pub verdict-gives : {A C : Type 0} (os : List (Outcome C)) (a x : A) → verdict os a ≡ gives x → a ≡ x
verdict-gives os a x e = gives_same (sym (rw e at (verdict-other os a a)))
