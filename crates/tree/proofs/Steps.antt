-- One turn of the loops of search and of a target, and one node of a listing, is one step of the definition.
use Rattle.std.proofs.Common.{Result}
use mathlib.Core.Path.{◌≡◌, sym, ap, ◌∙◌}
use mathlib.Core.Bool.{Bool, true, false, cond}
use mathlib.Core.List.{List, ◌∷◌}
use Prim.Native.Nat.{ℕ, suc, ◌+◌, ◌-◌, ◌≤◌, ◌<◌}
use native.Mathlib.Nat.{zero-add, le_refl}
use native.Mathlib.Numerals.{add-one}
use native.Mathlib.Omega.{arith}
use lib.Dec.{ltb}
use lib.ListN.{length}
use borrow.Author.Tests.{eq-eqb, ne_eqb}
use Rattle.tree.specs.declared.shape.Stretch.{Stretch}
use Rattle.codes.specs.declared.marking.Mark.{Mark}
use Rattle.tree.specs.declared.nodes.Levels.{Levels}
use Rattle.tree.specs.declared.nodes.Refusal.{Refusal}
use Rattle.tree.specs.Shape.{height, root_place, child_of, side_of, rank}
use Rattle.tree.specs.Levels.{fetched_at, Fits}
use Rattle.tree.specs.LevelMarks.{LevelMarks}
use Rattle.tree.specs.declared.walking.Found.{Found}
use Rattle.tree.specs.Outcomes.{Outcome, gives, refuses, known, verdict}
use Rattle.tree.specs.Times.{outcome, times_in}
use Rattle.tree.specs.Walks.{found, met, toward_from, toward, last_of, access_answer, is_below, search_nodes, remember, position, kept_from, target_from}
use Rattle.tree.specs.Standing.{Stands, Openable, Opens, access_from}
use Rattle.tree.proofs.Heights.{height-is}
use Rattle.tree.proofs.Stretches.{stretch-root, stretch-child, side-in, pins-of-node, node-of-pins, no_pins, place-some, rank_is}
use Rattle.tree.proofs.NodeTimes.{time-above, time-step}
use Rattle.tree.proofs.NodeFetches.{Level, level-fits}
use Rattle.tree.proofs.Walks.{child-bounds, parent_of, walk-out, walk-on, toward-on, met-fine, met-refused}

-- ---- where a walk stands

pub stands-root : (levels : Levels) (s : List ℕ) → Stands levels s 1 0 (record { start = 0; pins = levels.pins }) 0
stands-root levels s = record {
  one = le_refl 1;
  low = omega arith;
  high = omega arith;
  under = stretch-root levels.pins;
  inside = omega arith;
  parent = time-above (fetched_at levels s);
}

pub root-depth : height 1 - 1 ≡ 0
root-depth = omega (arith, height-is 0 1 (le_refl 1) (omega arith))

module _ {levels : Levels} {s : List ℕ} {v depth : ℕ} {here : Stretch} {above : ℕ} (w : Stands levels s v depth here above) where
  stands-pins : v ≤ levels.pins → 1 ≤ here.pins
  stands-pins k = rw w.under at (pins-of-node levels.pins v w.one k)

  pub stands-node : 1 ≤ here.pins → v ≤ levels.pins
  stands-node h = node-of-pins levels.pins v (rw w.under h)

  pub stands-place : v ≤ levels.pins → (1 ≤ root_place here.pins) × (root_place here.pins ≤ here.pins)
  stands-place k = place-some levels.pins w.one k w.under

  pub stands-rank : rank levels.pins v ≡ here.start + root_place here.pins - 1
  stands-rank = rank_is levels.pins v w.under

  -- past the last node the stretch ends where it starts
  pub stands-end : levels.pins < v → here.start + here.pins ≡ here.start
  stands-end k = omega (arith, rw w.under at (no_pins levels.pins v k))

  -- a side ends at the node's rank or where the stretch ends
  pub side-ends : v ≤ levels.pins → (right : Bool) (kept : List ℕ) → position levels.pins kept ≡ here.start + here.pins
      → position levels.pins (cond right kept (v ∷ kept)) ≡ (side_of right here).start + (side_of right here).pins
  side-ends k true kept e = let p = stands-place k in e ∙ omega arith
  side-ends k false kept e = let p = stands-place k in stands-rank ∙ omega arith

  pub stands-level : Fits levels s → v ≤ levels.pins → Level levels s depth
  stands-level f k = level-fits f w.low k

  pub stands-opens : {marks : List Mark} → LevelMarks levels.ends s marks → v ≤ levels.pins → Openable levels s marks depth v
  stands-opens m k = record { marks = m; low = w.low; high = w.high; among = k }

  -- what comes of opening the node is its time
  pub stands-time : {ms : List Mark} {r : Result ℕ Refusal} → Opens levels s ms above v r → times_in levels s v ≡ outcome r
  stands-time o = time-step (fetched_at levels s) v w.one ∙ rw w.parent (sym o.time)

  pub stands-child : (right : Bool) (t : ℕ) → v ≤ levels.pins → times_in levels s v ≡ gives t
      → Stands levels s (child_of right v) (depth + 1) (side_of right here) t
  stands-child right t k e =
      let i = side-in right here (stands-pins k) in
      let b = child-bounds right v in
      record {
        one = omega (arith, w.one);
        low = rw (add-one depth) (omega (arith, w.low));
        high = rw (add-one depth) (omega (arith, w.high));
        under = stretch-child levels.pins right v w.one ∙ rw w.under;
        inside = omega (arith, w.inside);
        parent = rw (parent_of right v) e;
      }

-- ---- a target

module _ (n : ℕ) (time : ℕ → Outcome ℕ) (t : ℕ) where
  pub kept-end : (kept : List ℕ) (v : ℕ) → n < v → kept_from n time t kept v ≡ kept
  unfolding remember
  kept-end kept v h = rw (walk-out n _ (is_below time t) v h)

  pub target-end : (kept : List ℕ) (k v : ℕ) → n < v → target_from n time t kept k v ≡ gives (found (position n kept) k)
  unfolding target_from remember met verdict
  target-end kept k v h = rw (walk-out n _ (is_below time t) v h) (ap (λ (j : ℕ). gives (found (position n kept) j)) (omega arith))

  pub target-refused : (kept : List ℕ) (k v r u : ℕ) → 1 ≤ v → v ≤ n → time v ≡ refuses r u → target_from n time t kept k v ≡ refuses r u
  unfolding target_from
  target-refused kept k v r u h l e = rw (walk-on n _ (is_below time t) v h l) (met-refused time _ v _ e)

  -- at a node with time x
  module _ (kept : List ℕ) (v x : ℕ) (h : 1 ≤ v) (l : v ≤ n) (e : time v ≡ gives x) where
    pub kept_step : kept_from n time t kept v ≡ kept_from n time t (cond (ltb x t) kept (v ∷ kept)) (child_of (ltb x t) v)
    unfolding remember
    kept_step =
        rw (walk-on n _ (is_below time t) v h l)
        (ap (λ (z : Outcome ℕ). kept_from n time t (cond (ltb (known z) t) kept (v ∷ kept)) (child_of (ltb (known z) t) v)) e)

    pub target-step : (k : ℕ) → target_from n time t kept k v ≡ target_from n time t (cond (ltb x t) kept (v ∷ kept)) (k + 1) (child_of (ltb x t) v)
    unfolding target_from
    target-step k =
        let on : List ℕ → ℕ → ℕ → Outcome Found = λ us p j. met time us (found p j) in
        let later : Outcome ℕ → List ℕ = λ z. search_nodes n time t (child_of (ltb (known z) t) v) in
        let m = length (later (gives x)) in
        let j : k + suc m ≡ k + 1 + m = omega arith in
        ap (λ (p : ℕ). met time (search_nodes n time t v) (found p (k + length (search_nodes n time t v)))) (ap (position n) kept_step)
        ∙ rw (walk-on n _ (is_below time t) v h l)
        (met-fine time _ v _ e ∙ ap (λ (z : Outcome ℕ). on (later z) (position n (kept_from n time t (cond (ltb x t) kept (v ∷ kept)) (child_of (ltb x t) v))) (k + suc (length (later z)))) e
        ∙ ap (on (later (gives x)) _) j)

-- ---- access

module _ (n : ℕ) (time : ℕ → Outcome ℕ) (i : ℕ) where
  pub access-start : access_answer n time i ≡ access_from n time i 0 1
  unfolding access_answer toward
  access-start = rw zero-add

  pub access-refused : (k v r u : ℕ) → 1 ≤ v → v ≤ n → time v ≡ refuses r u → access_from n time i k v ≡ refuses r u
  access-refused k v r u h l e = rw (toward-on n i v h l) (met-refused time _ v _ e)

  pub access-end : (k v x : ℕ) → 1 ≤ v → v ≤ n → time v ≡ gives x → rank n v ≡ i → access_from n time i k v ≡ gives (found x (k + 1))
  unfolding last_of met verdict
  access-end k v x h l e r =
      rw (toward-on n i v h l, eq-eqb (rank n v) i r, e)

  pub access-step : (k v x : ℕ) → 1 ≤ v → v ≤ n → time v ≡ gives x → (rank n v ≡ i → ⊥)
      → access_from n time i k v ≡ access_from n time i (k + 1) (child_of (ltb (rank n v) i) v)
  unfolding last_of
  access-step k v x h l e r =
      let u = child_of (ltb (rank n v) i) v in
      let nodes = toward_from n i u in
      let j : k + suc (length nodes) ≡ k + 1 + length nodes = omega arith in
      rw (toward-on n i v h l, ne_eqb (rank n v) i r)
      (met-fine time _ v nodes e ∙ rw (j, parent_of (ltb (rank n v) i) v))
