-- The nodes that access and search open in the tree of a list, and where a search ends.
use Rattle.std.proofs.Common.{◌≡◌, refl, sym, ap, ap₂, ◌∙◌, Bool, true, false, cond, List, [], ◌∷◌, ◌++◌, append-nil, append_assoc, ℕ, zero, suc, ◌+◌, ◌-◌}
use Rattle.std.proofs.Common.{◌/◌, ◌^◌, ◌≤◌, ◌<◌, le_refl, zero-add, div-one, arith, T, eqb, ltb, length, get_or, lt-ltb, le-ltb, eq-eqb, ne_eqb}
use native.Mathlib.Nat.{pow-succ', div-div-eq-div-mul}
use native.Mathlib.Decide.{dec_lt}
use Rattle.tree.specs.Shape.{height, child_of, rank}
use Rattle.tree.specs.Lists.{ordered, smaller}
use Rattle.tree.specs.Stored.{time_of}
use Rattle.tree.specs.Outcomes.{Outcome, gives, known}
use Rattle.tree.specs.Walks.{walk, found, met, toward_from, toward, last_of, access_answer, from_root_in, from_root}
use Rattle.tree.specs.Walks.{never, is_below, search_nodes, remember, position, kept_from, target_from, search_answer, path}
use Rattle.tree.specs.Filled.{Under, here, below}
use Rattle.tree.proofs.Heights.{height-zero, height-step}
use Rattle.tree.proofs.Orders.{smaller-le, smaller-first}
use Rattle.tree.proofs.Walks.{child-bounds, parent_of, walk-out, walk-on, toward-on, walk_same, walk-among, met-none}
use Rattle.tree.proofs.Inorder.{Tree, out, node, tree}
use Rattle.tree.proofs.Ranks.{under-root, under-rank, under-out, rank_lt, rank-found}

-- ---- access

-- the nodes from w down to a node under it
steps : {w v : ℕ} → Under w v → List ℕ
steps {w} (here e) = w ∷ []
steps {w} (below b x) = w ∷ steps x

toward-under : (n v : ℕ) {w a b : ℕ} → v ≤ n → Tree n w a b → (x : Under w v)
    → toward_from n (rank n v) w ≡ steps x
unfolding steps child_of
toward-under n v k (out h e) x = absurd (omega (arith, under-out n x h))
toward-under n v {w} k (node h l a b) (here e) =
    toward-on n (rank n v) w h l ∙ rw (eq-eqb (rank n w) (rank n v) (ap (rank n) e))
toward-under n v {w} k (node h l a b) (below false x) =
    let r = under-rank a x k in
    toward-on n (rank n v) w h l
    ∙ rw (ne_eqb (rank n w) (rank n v) (omega arith), le-ltb (rank n w) (rank n v) (omega arith)) (ap (λ (us : List ℕ). w ∷ us) (toward-under n v k a x))
toward-under n v {w} k (node h l a b) (below true x) =
    let r = under-rank b x k in
    toward-on n (rank n v) w h l
    ∙ rw (ne_eqb (rank n w) (rank n v) (omega arith), lt-ltb (rank n w) (rank n v) (omega arith)) (ap (λ (us : List ℕ). w ∷ us) (toward-under n v k b x))

-- one node on each level
from_root-one : (v : ℕ) (after : List ℕ) → 1 ≤ v → from_root_in (height v) v after ≡ from_root_in (height (v / 2)) (v / 2) (v ∷ after)
unfolding from_root_in
from_root-one v after h = rw (height-step v h)

from_root-under : {w v : ℕ} (x : Under w v) (after : List ℕ) → 1 ≤ w
    → from_root_in (height v) v after ≡ from_root_in (height (w / 2)) (w / 2) (steps x ++ after)
unfolding steps
from_root-under {w} (here e) after h = rw (← e) (from_root-one w after h)
from_root-under {w} (below b x) after h =
    from_root-under x after (omega (arith, child-bounds b w)) ∙ rw (parent_of b w) (from_root-one w (steps x ++ after) h)

pub toward-rank : (n v : ℕ) → 1 ≤ v → v ≤ n → toward n (rank n v) ≡ from_root v
unfolding toward from_root_in
toward-rank n v h k =
    let x = under-root v h in
    let e : 1 / 2 ≡ 0 = omega arith in
    toward-under n v k (tree n) x ∙ sym (from_root-under x [] (le_refl 1) ∙ rw (e, height-zero) (append-nil (steps x)))

from_root_in-length : (f v : ℕ) (after : List ℕ) → length (from_root_in f v after) ≡ f + length after
unfolding from_root_in
from_root_in-length zero v after = omega arith
from_root_in-length (suc f) v after = from_root_in-length f (v / 2) (v ∷ after) ∙ omega arith

pub from_root-length : (v : ℕ) → length (from_root v) ≡ height v
from_root-length v = from_root_in-length (height v) v [] ∙ omega arith

last_of-from_root : (f v b : ℕ) (after : List ℕ) → last_of 0 (from_root_in f v (b ∷ after)) ≡ last_of 0 (b ∷ after)
unfolding from_root_in last_of
last_of-from_root zero v b after = refl
last_of-from_root (suc f) v b after = last_of-from_root f (v / 2) v (b ∷ after)

pub last-from_root : (v : ℕ) → 1 ≤ v → last_of 0 (from_root v) ≡ v
unfolding last_of
last-from_root v h = ap (last_of 0) (from_root-one v [] h) ∙ last_of-from_root (height (v / 2)) (v / 2) v []

-- the last k of the nodes from the root to node v
unfoldable pub down_to : ℕ → ℕ → List ℕ
down_to v zero = []
down_to v (suc k) = v / 2 ^ k ∷ down_to v k

pub down_to-on : (v k : ℕ) → 1 ≤ k → down_to v k ≡ v / 2 ^ (k - 1) ∷ down_to v (k - 1)
unfolding down_to
down_to-on v zero h = absurd (omega arith)
down_to-on v (suc k) h = let e : suc k - 1 ≡ k = omega arith in rw e

down_to-more : (k v : ℕ) → down_to v (suc k) ≡ down_to (v / 2) k ++ (v ∷ [])
unfolding down_to
down_to-more zero v = rw (div-one v)
down_to-more (suc k) v =
    rw (pow-succ' 2 k, ← (div-div-eq-div-mul v 2 (2 ^ k))) (ap (λ (us : List ℕ). v / 2 / 2 ^ k ∷ us) (down_to-more k v))

down_to-from_root : (k v : ℕ) (after : List ℕ) → from_root_in k v after ≡ down_to v k ++ after
unfolding from_root_in down_to
down_to-from_root zero v after = refl
down_to-from_root (suc k) v after =
    down_to-from_root k (v / 2) (v ∷ after) ∙ sym (ap (λ (us : List ℕ). us ++ after) (down_to-more k v) ∙ append_assoc (down_to (v / 2) k) (v ∷ []) after)

-- an access opens these
pub access-down : (n v : ℕ) (time : ℕ → Outcome ℕ) → 1 ≤ v → v ≤ n
    → access_answer n time (rank n v) ≡ met time (down_to v (height v)) (found (known (time v)) (height v))
unfolding access_answer
access-down n v time h k =
    rw (toward-rank n v h k, last-from_root v h, from_root-length v, down_to-from_root (height v) v [], append-nil (down_to v (height v)))

-- so no two nodes have one rank
pub rank-once : (n u v : ℕ) → 1 ≤ u → u ≤ n → 1 ≤ v → v ≤ n → rank n u ≡ rank n v → u ≡ v
rank-once n u v a b c d e =
    sym (last-from_root u a) ∙ ap (last_of 0) (sym (toward-rank n u a b) ∙ ap (toward n) e ∙ toward-rank n v c d) ∙ last-from_root v c

-- ---- search

-- the test of a walk cuts the ranks at p: it is passed by the nodes of the ranks below p and by no others
abbrev pub Cuts : ℕ → (ℕ → Bool) → ℕ → Type 0
Cuts n past p = (v : ℕ) → 1 ≤ v → v ≤ n → past v ≡ ltb (rank n v) p

module _ (n : ℕ) (past : ℕ → Bool) (p : ℕ) (c : Cuts n past p) (v : ℕ) (h : 1 ≤ v) (k : v ≤ n) where
  pub cut_right : rank n v < p → past v ≡ true
  cut_right q = c v h k ∙ lt-ltb (rank n v) p q

  pub cut_left : p ≤ rank n v → past v ≡ false
  cut_left q = c v h k ∙ le-ltb (rank n v) p q

-- a walk goes on by one side of node v, and remembers v where that is the left one
module _ (n : ℕ) (past : ℕ → Bool) (v : ℕ) (right : Bool) (h : 1 ≤ v) (k : v ≤ n) (e : past v ≡ right) where
  pub walk-side : walk n never past v ≡ v ∷ walk n never past (child_of right v)
  walk-side = rw (← e) (walk-on n never past v h k)

  pub remember-side : (kept : List ℕ)
      → remember past (walk n never past v) kept ≡ remember past (walk n never past (child_of right v)) (cond right kept (v ∷ kept))
  unfolding remember
  remember-side kept = rw walk-side (ap (λ (b : Bool). remember past (walk n never past (child_of right v)) (cond b kept (v ∷ kept))) e)

-- a walk through the stretch from a to b, with b as the position before it, ends at the cut
search-under : (n : ℕ) (past : ℕ → Bool) (p : ℕ) → Cuts n past p → {v a b : ℕ} → Tree n v a b → a ≤ p → p ≤ b
    → (kept : List ℕ) → position n kept ≡ b → position n (remember past (walk n never past v) kept) ≡ p
unfolding remember child_of
search-under n past p c {v} (out h e) lo hi kept q = rw (walk-out n never past v h) (omega arith)
search-under n past p c {v} (node h k l r) lo hi kept q = elim (dec_lt (rank n v) p) [
  | yes y ↦ rw (remember-side n past v true h k (cut_right n past p c v h k y) kept) (search-under n past p c r y hi kept q)
  | no y ↦
      rw (remember-side n past v false h k (cut_left n past p c v h k (omega arith)) kept)
      (search-under n past p c l lo (omega arith) (v ∷ kept) refl)
]

pub cuts-below : (xs : List ℕ) (t : ℕ) → T (ordered xs) → Cuts (length xs) (λ v. ltb (time_of xs v) t) (smaller t xs)
unfolding time_of
cuts-below xs t o v h k = smaller-first t xs o (rank (length xs) v) (rank_lt (length xs) v h k)

-- ---- the answers, where no node's time is refused

module _ (xs : List ℕ) (time : ℕ → Outcome ℕ) (fine : (v : ℕ) → 1 ≤ v → v ≤ length xs → time v ≡ gives (time_of xs v)) where
  below-same : (t v : ℕ) → 1 ≤ v → v ≤ length xs → is_below time t v ≡ ltb (time_of xs v) t
  below-same t v h k = ap (λ (x : Outcome ℕ). ltb (known x) t) (fine v h k)

  -- the last node on the way to rank i is the one of that rank
  pub access-answer : (i : ℕ) → i < length xs → access_answer (length xs) time i ≡ gives (found (get_or xs i 0) (length (toward (length xs) i)))
  unfolding access_answer toward time_of
  access-answer i h =
      let n = length xs in
      let (v, one, k, r) = rank-found (tree n) i (omega arith) h in
      let last : last_of 0 (toward n i) ≡ v = ap (λ (j : ℕ). last_of 0 (toward n j)) (sym r) ∙ ap (last_of 0) (toward-rank n v one k) ∙ last-from_root v one in
      let x : known (time (last_of 0 (toward n i))) ≡ get_or xs i 0 = rw last (ap known (fine v one k) ∙ ap (λ (j : ℕ). get_or xs j 0) r) in
      met-none n time (time_of xs) fine _ (toward n i) (walk-among n (λ u. eqb (rank n u) i) (λ u. ltb (rank n u) i) 1 (le_refl 1))
      ∙ ap (λ (y : ℕ). gives (found y (length (toward n i)))) x

  pub search-path : (t : ℕ) → search_nodes (length xs) time t 1 ≡ path xs t
  unfolding path
  search-path t = walk_same (length xs) never (is_below time t) (λ v. ltb (time_of xs v) t) (below-same t) 1 (le_refl 1)

  module _ (o : T (ordered xs)) (t : ℕ) where
    pub search-cuts : Cuts (length xs) (is_below time t) (smaller t xs)
    search-cuts v h k = below-same t v h k ∙ cuts-below xs t o v h k

    -- the position is the number of smaller times
    pub search-position : position (length xs) (kept_from (length xs) time t [] 1) ≡ smaller t xs
    search-position = search-under (length xs) (is_below time t) (smaller t xs) search-cuts (tree (length xs)) (omega arith) (smaller-le t xs) [] refl

    pub search-answer : search_answer (length xs) time t ≡ gives (found (smaller t xs) (length (path xs t)))
    unfolding target_from
    search-answer =
        let nodes = search_nodes (length xs) time t 1 in
        met-none (length xs) time (time_of xs) fine _ nodes (walk-among (length xs) never (is_below time t) 1 (le_refl 1))
        ∙ ap gives (ap₂ found search-position (zero-add (length nodes) ∙ ap length (search-path t)))
