-- Lists that agree from one place on, lists whose first entries are known, lists of zeros, and the test whether two lists are the same.
use Rattle.std.proofs.Common.{◌≡◌, ℕ, zero, suc, ◌+◌, ◌-◌, ◌<◌, ◌≤◌, Bool, true, false, eqb, List, [], ◌∷◌, length, get_or, take, drop, set, replicate, sym, refl, ap, ◌∙◌, true≢false, add-zero, arith, get_or-drop, get_or-set_other, get_or-set_same, drop-drop, eq-eqb, eqb-true}
use Rattle.std.proofs.lemmas.Bool.{eqb-false}
use mathlib.Core.Bool.{and-eq-true_iff}
use Rattle.codes.specs.Lists.{same}

module _ {ℓ} {A : Type ℓ} (xs ys : List A) (n : ℕ) (e : drop n xs ≡ drop n ys) where
  pub drop-later : (m : ℕ) → n ≤ m → drop m xs ≡ drop m ys
  drop-later m h =
      let k : n + (m - n) ≡ m = omega arith in
      rw (← k, ← (drop-drop (m - n) n xs), ← (drop-drop (m - n) n ys), e)

  pub get_or-there : (d : A) → get_or xs n d ≡ get_or ys n d
  get_or-there d = rw (add-zero n) at (sym (get_or-drop n xs 0 d) ∙ ap (λ (l : List A). get_or l 0 d) e ∙ get_or-drop n ys 0 d)

-- one entry more is known
pub more : (vs : List ℕ) (i x : ℕ) (f : ℕ → ℕ) → i < length vs → ((q : ℕ) → q < i → get_or vs q 0 ≡ f q) → x ≡ f i
    → (q : ℕ) → q < i + 1 → get_or (set vs i x) q 0 ≡ f q
more vs i x f h known e q k = go (eqb q i) refl
  where
    go : (t : Bool) → eqb q i ≡ t → get_or (set vs i x) q 0 ≡ f q
    go true s = rw (eqb-true q i s) (get_or-set_same vs i x 0 h ∙ e)
    go false s = get_or-set_other vs i q x 0 (eqb-false q i s) ∙ known q (omega (arith, eqb-false q i s))

pub zeros-at : (n t : ℕ) → ◌≡◌ {A = ℕ} (get_or (replicate n 0) t 0) 0
zeros-at zero t = refl
zeros-at (suc n) zero = refl
zeros-at (suc n) (suc t) = zeros-at n t

pub zeros-taken : (m n t : ℕ) → ◌≡◌ {A = ℕ} (get_or (take m (replicate n 0)) t 0) 0
zeros-taken zero n t = refl
zeros-taken (suc m) zero t = refl
zeros-taken (suc m) (suc n) zero = refl
zeros-taken (suc m) (suc n) (suc t) = zeros-taken m n t

pub same_lists : (xs ys : List ℕ) → same xs ys ≡ true → xs ≡ ys
same_lists [] [] h = refl
same_lists [] (y ∷ ys) h = absurd (true≢false (sym h))
same_lists (x ∷ xs) [] h = absurd (true≢false (sym h))
same_lists (x ∷ xs) (y ∷ ys) h =
    let b = (and-eq-true_iff (eqb x y) (same xs ys)).0 h in
    rw (eqb-true x y b.0, same_lists xs ys b.1)

pub same_itself : (xs : List ℕ) → same xs xs ≡ true
same_itself [] = refl
same_itself (x ∷ xs) = rw (eq-eqb x x refl) (same_itself xs)

pub not_same : (xs ys : List ℕ) → (xs ≡ ys → ⊥) → same xs ys ≡ false
not_same xs ys h = go (same xs ys) refl
  where
    go : (t : Bool) → same xs ys ≡ t → t ≡ false
    go true e = absurd (h (same_lists xs ys e))
    go false e = refl
