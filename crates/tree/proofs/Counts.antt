-- How often a number stands in a list, and sums over the numbers 1 to n. A sum over a list of such numbers counts each as often as it stands
-- there.
use Rattle.std.proofs.Common.{◌≡◌, refl, ap, ap₂, ◌∙◌, Bool, true, false, cond, ◌||◌, List, [], ◌∷◌, ◌++◌, map, ◌⊎◌, inl, inr, ◌≢◌, ℕ, zero, suc, ◌+◌, ◌*◌}
use Rattle.std.proofs.Common.{◌≤◌, ◌<◌, min, max, le_refl, arith, eqb, ltb, length, lt-ltb, eq-eqb, ne_eqb}
use native.Mathlib.Decide.{ℕ_discrete}
use Rattle.codes.specs.Bits.{sum}
use Rattle.tree.specs.Sweeps.{occurrences, sum_to}
use Rattle.tree.specs.Walks.{Among}

-- 1 where a test is passed, else 0
abbrev pub bit : Bool → ℕ
bit b = cond b 1 0

pub equal-cases : (v u : ℕ) → ((v ≡ u) × (bit (eqb v u) ≡ 1)) ⊎ ((v ≢ u) × (bit (eqb v u) ≡ 0))
equal-cases v u = elim (ℕ_discrete v u) [
  | yes e ↦ inl (e, rw (eq-eqb v u e))
  | no e ↦ inr (e, rw (ne_eqb v u e))
]

pub occurrences-append : (v : ℕ) (us ws : List ℕ) → occurrences v (us ++ ws) ≡ occurrences v us + occurrences v ws
unfolding occurrences
occurrences-append v [] ws = omega arith
occurrences-append v (u ∷ us) ws = omega (arith, occurrences-append v us ws)

pub bit_or : (n : ℕ) (b : Bool) → bit (ltb 0 n || b) ≡ max (min 1 n) (bit b)
bit_or zero b = omega arith
bit_or (suc n) b = rw (lt-ltb 0 (suc n) (omega arith)) (go b)
  where
    go : (b : Bool) → 1 ≡ max (min 1 (suc n)) (bit b)
    go true = omega arith
    go false = omega arith

-- ---- sums

pub sum_same : (k : ℕ) {f g : ℕ → ℕ} → ((v : ℕ) → f v ≡ g v) → sum_to k f ≡ sum_to k g
unfolding sum_to
sum_same zero e = refl
sum_same (suc k) e = ap₂ (λ (x y : ℕ). x + y) (sum_same k e) (e (suc k))

pub sum-le : (k : ℕ) {f g : ℕ → ℕ} → ((v : ℕ) → f v ≤ g v) → sum_to k f ≤ sum_to k g
unfolding sum_to
sum-le zero h = le_refl 0
sum-le (suc k) h = omega (arith, sum-le k h, h (suc k))

pub sum-add : (k : ℕ) (f g : ℕ → ℕ) → sum_to k (λ v. f v + g v) ≡ sum_to k f + sum_to k g
unfolding sum_to
sum-add zero f g = refl
sum-add (suc k) f g = omega (arith, sum-add k f g)

pub sum-none : (k : ℕ) {f : ℕ → ℕ} → ((v : ℕ) → f v ≡ 0) → sum_to k f ≡ 0
unfolding sum_to
sum-none zero h = refl
sum-none (suc k) h = omega (arith, sum-none k h, h (suc k))

-- at most 1 for each
pub count-le : (k : ℕ) (test : ℕ → Bool) → sum_to k (λ v. bit (test v)) ≤ k
unfolding sum_to
count-le zero test = le_refl 0
count-le (suc k) test = go (test (suc k)) (count-le k test)
  where
    go : (b : Bool) → sum_to k (λ v. bit (test v)) ≤ k → sum_to k (λ v. bit (test v)) + bit b ≤ suc k
    go true h = omega arith
    go false h = omega arith

-- one of the numbers 1 to k is u, where u is among them
sum_past : (k u : ℕ) (f : ℕ → ℕ) → k < u → sum_to k (λ v. bit (eqb v u) * f v) ≡ 0
unfolding sum_to
sum_past zero u f h = refl
sum_past (suc k) u f h = rw (ne_eqb (suc k) u (λ e. omega arith)) (omega (arith, sum_past k u f (omega arith)))

sum_one : (k u : ℕ) (f : ℕ → ℕ) → 1 ≤ u → u ≤ k → sum_to k (λ v. bit (eqb v u) * f v) ≡ f u
unfolding sum_to
sum_one zero u f h l = absurd (omega arith)
sum_one (suc k) u f h l = elim (ℕ_discrete (suc k) u) [
  | yes e ↦ rw (eq-eqb (suc k) u e, sum_past k u f (omega arith), e) (omega arith)
  | no e ↦ rw (ne_eqb (suc k) u e, sum_one k u f h (omega arith)) (omega arith)
]

pub sum-occurrences : (n : ℕ) (f : ℕ → ℕ) (vs : List ℕ) → Among n vs → sum (map f vs) ≡ sum_to n (λ v. occurrences v vs * f v)
unfolding sum occurrences Among
sum-occurrences n f [] a = omega (arith, sum-none n {f = λ v. 0 * f v} (λ v. omega arith))
sum-occurrences n f (u ∷ us) a =
    ap₂ (λ (x y : ℕ). x + y) (sym-one u a.0 a.1) (sum-occurrences n f us a.2)
    ∙ sums (λ v. bit (eqb v u)) (λ v. occurrences v us)
  where
    sym-one : (u : ℕ) → 1 ≤ u → u ≤ n → f u ≡ sum_to n (λ v. bit (eqb v u) * f v)
    sym-one u h l = omega (arith, sum_one n u f h l)

    sums : (g h : ℕ → ℕ) → sum_to n (λ v. g v * f v) + sum_to n (λ v. h v * f v) ≡ sum_to n (λ v. (g v + h v) * f v)
    sums g h =
        let apart = sum_same n {f = λ v. (g v + h v) * f v} {g = λ v. g v * f v + h v * f v} (λ v. omega arith) in
        omega (arith, sum-add n (λ v. g v * f v) (λ v. h v * f v), apart)

-- a list is as long as the numbers stand in it
pub length-occurrences : (n : ℕ) (vs : List ℕ) → Among n vs → length vs ≡ sum_to n (λ v. occurrences v vs)
unfolding sum
length-occurrences n vs a = ones vs ∙ sum-occurrences n (λ v. 1) vs a ∙ sum_same n (λ v. omega arith)
  where
    ones : (us : List ℕ) → length us ≡ sum (map (λ v. 1) us)
    ones [] = refl
    ones (u ∷ us) = ap suc (ones us) ∙ omega arith
