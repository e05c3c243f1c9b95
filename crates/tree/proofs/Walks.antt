-- A walk goes from a node to one of its children, and has at most as many nodes as the height.
use Rattle.std.proofs.Common.{◌≡◌, refl, ap, ◌∙◌, Bool, true, false, cond, List, [], ◌∷◌, ◌++◌, map, ℕ, zero, suc, ◌+◌, ◌-◌, ◌*◌, ◌/◌, ◌%◌, ◌≤◌, ◌<◌}
use Rattle.std.proofs.Common.{arith, eqb, ltb, length, lt-ltb, le-ltb, eq-eqb, ne_eqb}
use mathlib.Core.List.{map-append}
use native.Mathlib.Decide.{dec_lt, ℕ_discrete}
use Rattle.tree.specs.Shape.{height, child_of, rank}
use Rattle.tree.specs.Outcomes.{Outcome, gives, refuses, after, verdict}
use Rattle.tree.specs.Walks.{walk_in, walk, Among, met, toward_from}
use Rattle.tree.proofs.Heights.{height-step, height-mono, height-above}
use Rattle.tree.proofs.Outcomes.{verdict-append, verdict-other, verdict-gives}

pub child-bounds : (right : Bool) (v : ℕ) → (2 * v ≤ child_of right v) × (child_of right v ≤ 2 * v + 1)
unfolding child_of
child-bounds true v = omega arith
child-bounds false v = omega arith

pub parent_of : (right : Bool) (v : ℕ) → child_of right v / 2 ≡ v
unfolding child_of
parent_of true v = omega arith
parent_of false v = omega arith

-- every number is a child of its half
pub child-half : (v : ℕ) → v ≡ child_of (eqb (v % 2) 1) (v / 2)
unfolding child_of
child-half v = elim (ℕ_discrete (v % 2) 1) [
  | yes e ↦ rw (eq-eqb (v % 2) 1 e) (omega arith)
  | no e ↦ rw (ne_eqb (v % 2) 1 e) (omega arith)
]

pub height-child : (right : Bool) (v : ℕ) → 1 ≤ v → height (child_of right v) ≡ suc (height v)
height-child right v h = height-step (child_of right v) (omega (arith, child-bounds right v)) ∙ rw (parent_of right v)

module _ (n : ℕ) (stop past : ℕ → Bool) where
  walk_in-out : (f v : ℕ) → n < v → walk_in f n stop past v ≡ []
  unfolding walk_in
  walk_in-out zero v h = refl
  walk_in-out (suc f) v h = rw (lt-ltb n v h)

  -- past the last node nothing is opened
  pub walk-out : (v : ℕ) → n < v → walk n stop past v ≡ []
  unfolding walk
  walk-out v h = walk_in-out (suc (height n) - height v) v h

  pub walk-on : (v : ℕ) → 1 ≤ v → v ≤ n → walk n stop past v ≡ v ∷ cond (stop v) [] (walk n stop past (child_of (past v) v))
  unfolding walk walk_in
  walk-on v h k =
      let e : suc (height n) - height v ≡ suc (height n - height v) = omega (arith, height-mono v n k) in
      let f : suc (height n) - suc (height v) ≡ height n - height v = omega arith in
      rw (height-child (past v) v h, f, e, le-ltb n v k)

  walk_in-length : (f v : ℕ) → length (walk_in f n stop past v) ≤ f
  unfolding walk_in
  walk_in-length zero v = omega arith
  walk_in-length (suc f) v = go (ltb n v) (stop v) (walk_in f n stop past (child_of (past v) v)) (walk_in-length f (child_of (past v) v))
    where
      go : (out done : Bool) (later : List ℕ) → length later ≤ f → length (cond out [] (v ∷ cond done [] later)) ≤ suc f
      go true done later h = omega arith
      go false true later h = omega arith
      go false false later h = omega arith

  -- a walk opens no more nodes than the tree has levels
  pub walk-length : (v : ℕ) → 1 ≤ v → length (walk n stop past v) ≤ height n
  unfolding walk
  walk-length v h = omega (arith, walk_in-length (suc (height n) - height v) v, height-above v 0 h)

pub toward-on : (n i v : ℕ) → 1 ≤ v → v ≤ n → toward_from n i v ≡ v ∷ cond (eqb (rank n v) i) [] (toward_from n i (child_of (ltb (rank n v) i) v))
toward-on n i v h k = walk-on n (λ u. eqb (rank n u) i) (λ u. ltb (rank n u) i) v h k

-- ---- the first refusal

module _ {A : Type 0} (time : ℕ → Outcome ℕ) (a : A) (v : ℕ) (vs : List ℕ) where
  pub met-fine : {t : ℕ} → time v ≡ gives t → met time (v ∷ vs) a ≡ met time vs a
  unfolding met verdict
  met-fine e = rw e

  pub met-refused : {r u : ℕ} → time v ≡ refuses r u → met time (v ∷ vs) a ≡ refuses r u
  unfolding met verdict
  met-refused e = rw e

module _ (time : ℕ → Outcome ℕ) (us : List ℕ) where
  -- nodes after those that lead to b
  pub met-append : {A B : Type 0} (vs : List ℕ) (a : A) (b : B) → met time (us ++ vs) a ≡ after (met time us b) (λ _. met time vs a)
  unfolding met
  met-append vs a b = rw (map-append time us vs) (verdict-append (map time us) (map time vs) a b)

  -- what is given does not decide
  pub met-other : {A B : Type 0} (a : A) (b : B) → met time us a ≡ after (met time us b) (λ _. gives a)
  unfolding met
  met-other a b = verdict-other (map time us) a b

  pub met-gives : {A : Type 0} (a x : A) → met time us a ≡ gives x → a ≡ x
  unfolding met
  met-gives a x e = verdict-gives (map time us) a x e

-- ---- walks that agree at the nodes

module _ (n : ℕ) (stop past past' : ℕ → Bool) (same : (v : ℕ) → 1 ≤ v → v ≤ n → past v ≡ past' v) where
  walk_in-same : (f v : ℕ) → 1 ≤ v → walk_in f n stop past v ≡ walk_in f n stop past' v
  unfolding walk_in
  walk_in-same zero v h = refl
  walk_in-same (suc f) v h = elim (dec_lt n v) [
    | yes k ↦ rw (lt-ltb n v k)
    | no k ↦
        let later = walk_in-same f (child_of (past' v) v) (omega (arith, child-bounds (past' v) v)) in
        rw (same v h (omega arith)) (ap (λ (l : List ℕ). cond (ltb n v) [] (v ∷ cond (stop v) [] l)) later)
  ]

  pub walk_same : (v : ℕ) → 1 ≤ v → walk n stop past v ≡ walk n stop past' v
  unfolding walk
  walk_same v h = walk_in-same (suc (height n) - height v) v h

-- ---- the nodes of a walk are among 1 to n

pub among-append : (n : ℕ) (us vs : List ℕ) → Among n us → Among n vs → Among n (us ++ vs)
unfolding Among
among-append n [] vs a b = b
among-append n (u ∷ us) vs a b = (a.0, a.1, among-append n us vs a.2 b)

module _ (n : ℕ) (stop past : ℕ → Bool) where
  walk_in-among : (f v : ℕ) → 1 ≤ v → Among n (walk_in f n stop past v)
  unfolding walk_in Among
  walk_in-among zero v h = tt
  walk_in-among (suc f) v h = elim (dec_lt n v) [
    | yes k ↦ rw (lt-ltb n v k) tt
    | no k ↦ rw (le-ltb n v (omega arith)) (h, omega arith, ended (stop v) _ (walk_in-among f (child_of (past v) v) (omega (arith, child-bounds (past v) v))))
  ]
    where
      ended : (b : Bool) (later : List ℕ) → Among n later → Among n (cond b [] later)
      ended true later a = tt
      ended false later a = a

  pub walk-among : (v : ℕ) → 1 ≤ v → Among n (walk n stop past v)
  unfolding walk
  walk-among v h = walk_in-among (suc (height n) - height v) v h

-- where no node's time is refused, nothing is
pub met-none : {A : Type 0} (n : ℕ) (time : ℕ → Outcome ℕ) (x : ℕ → ℕ) → ((v : ℕ) → 1 ≤ v → v ≤ n → time v ≡ gives (x v)) → (a : A) (vs : List ℕ) → Among n vs
    → met time vs a ≡ gives a
unfolding met verdict Among
met-none n time x fine a [] m = refl
met-none n time x fine a (v ∷ vs) m = rw (fine v m.0 m.1) (met-none n time x fine a vs m.2)
