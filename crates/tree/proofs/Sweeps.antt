-- A sweep gives each target the position that its search gives, and opens each node on the targets' paths once.
use Rattle.std.proofs.Common.{◌≡◌, refl, sym, ap, ap₂, ◌∙◌, Bool, true, false, cond, List, [], ◌∷◌, map, ℕ, zero, suc, ◌+◌, ◌*◌, ◌≤◌, ◌<◌, min, max}
use Rattle.std.proofs.Common.{le_refl, arith, T, eqb, ltb, length}
use native.Mathlib.Decide.{dec_lt}
use Rattle.codes.specs.Bits.{sum}
use Rattle.tree.specs.Shape.{height, child_of, rank}
use Rattle.tree.specs.Lists.{ordered, smaller}
use Rattle.tree.specs.Stored.{time_of}
use Rattle.tree.specs.Outcomes.{Outcome, gives}
use Rattle.tree.specs.Walks.{walk, Among, never, is_below, remember, position, kept_from, path}
use Rattle.tree.specs.Sweeps.{Dropped, dropped, Leg, leg, legs_from, legs, opened, sweep_nodes, sweep_answer, positions, sweep_positions, occurrences}
use Rattle.tree.specs.Sweeps.{on_path, sum_to, over_different, different}
use Rattle.tree.proofs.Orders.{smaller-mono, ordered-head}
use Rattle.tree.proofs.Walks.{walk-out, walk-length, among-append, walk-among, met-none}
use Rattle.tree.proofs.Inorder.{Tree, out, node, tree, tree-le}
use Rattle.tree.proofs.Preorder.{nodes-once}
use Rattle.tree.proofs.Paths.{Cuts, cut_right, cut_left, walk-side, remember-side, search-path, search-cuts, search-position}
use Rattle.tree.proofs.Counts.{bit, occurrences-append, bit_or, sum_same, sum-le, sum-add, sum-none, count-le, sum-occurrences, length-occurrences}

-- ---- how often a node stands in a walk

visits : ℕ → (ℕ → Bool) → ℕ → ℕ → ℕ
visits n past w v = occurrences v (walk n never past w)

module _ (n : ℕ) (past : ℕ → Bool) where
  visits-out : (w v : ℕ) → n < w → visits n past w v ≡ 0
  unfolding visits occurrences
  visits-out w v h = rw (walk-out n never past w h)

  visits-side : (w : ℕ) (right : Bool) → 1 ≤ w → w ≤ n → past w ≡ right → (v : ℕ) → visits n past w v ≡ bit (eqb v w) + visits n past (child_of right w) v
  unfolding visits occurrences
  visits-side w right h k e v = rw (walk-side n past w right h k e)

-- ---- two targets, the second not below the first

-- of how often a node is opened: not where the walk does not come to it, and at least where it does and the walk before did not
abbrev Covers : ℕ → ℕ → ℕ → Type 0
Covers before now opened = (opened ≤ now) × (now ≤ before + opened)

module _ (n : ℕ) (past past' : ℕ → Bool) (p p' : ℕ) (c : Cuts n past p) (c' : Cuts n past' p') where
  -- what the first remembers of a subtree whose ranks are all below the second's cut is dropped, and then x
  drops : {w a b : ℕ} → Tree n w a b → b ≤ p' → (from x : ℕ) (kept : List ℕ) → past' x ≡ true
      → dropped past' from (remember past (walk n never past w) (x ∷ kept)) ≡ dropped past' (child_of true x) kept
  unfolding remember dropped child_of
  drops {w} (out h e) m from x kept q = rw (walk-out n never past w h, q)
  drops {w} (node h k l r) m from x kept q = elim (dec_lt (rank n w) p) [
    | yes s ↦ rw (remember-side n past w true h k (cut_right n past p c w h k s) (x ∷ kept)) (drops r m from x kept q)
    | no s ↦
        let e = cut_right n past' p' c' w h k (omega (arith, tree-le r)) in
        rw (remember-side n past w false h k (cut_left n past p c w h k (omega arith)) (x ∷ kept))
        (drops l (omega (arith, tree-le r)) from w (x ∷ kept) e ∙ rw q)
  ]

  -- Going on as d says, the second target remembers what its walk from node w does, and opens the nodes of that walk, but for some that the
  -- first opens.
  Continues : ℕ → List ℕ → Dropped → Type 0
  Continues w kept d =
      (1 ≤ d.from)
      × (remember past' (walk n never past' d.from) d.kept ≡ remember past' (walk n never past' w) kept)
      × ((v : ℕ) → Covers (visits n past w v) (visits n past' w v) (visits n past' d.from v))

  -- where both leave node w by one side
  continues-side : (w : ℕ) (kept : List ℕ) (d : Dropped) (right : Bool) → 1 ≤ w → w ≤ n → past w ≡ right → past' w ≡ right
      → Continues (child_of right w) (cond right kept (w ∷ kept)) d → Continues w kept d
  unfolding Continues
  continues-side w kept d right h k e e' s = (
    s.0,
    s.1 ∙ sym (remember-side n past' w right h k e' kept),
    λ v. omega (arith, s.2 v, visits-side n past w right h k e v, visits-side n past' w right h k e' v),
  )

  continues : {w a b : ℕ} → Tree n w a b → p ≤ p' → (kept : List ℕ) → ((from : ℕ) → dropped past' from kept ≡ record { from = from; kept = kept })
      → Continues w kept (dropped past' (suc n) (remember past (walk n never past w) kept))
  unfolding Continues remember dropped child_of
  continues {w} (out h e) m kept stays =
      rw (walk-out n never past w h, stays (suc n), walk-out n never past' (suc n) (le_refl (suc n)), walk-out n never past' w h)
      (omega arith, refl, λ v. omega (arith, visits-out n past' (suc n) v (le_refl (suc n)), visits-out n past' w v h))
  continues {w} (node h k l r) m kept stays = elim (dec_lt (rank n w) p) [
    | yes s ↦
        let e = cut_right n past p c w h k s in
        continues-side w kept _ true h k e (cut_right n past' p' c' w h k (omega arith))
        (rw (remember-side n past w true h k e kept) (continues r m kept stays))
    | no s ↦
        let e = cut_left n past p c w h k (omega arith) in
        rw (remember-side n past w false h k e kept)
        (elim (dec_lt (rank n w) p') [
          | yes s' ↦
              let e' = cut_right n past' p' c' w h k s' in
              rw (drops l (omega arith) (suc n) w kept e', stays (child_of true w)) (
                omega arith,
                sym (remember-side n past' w true h k e' kept),
                λ v. omega (arith, visits-side n past w false h k e v, visits-side n past' w true h k e' v),
              )
          | no s' ↦
              let e' = cut_left n past' p' c' w h k (omega arith) in
              continues-side w kept _ false h k e e' (continues l m (w ∷ kept) (λ g. rw e'))
        ])
  ]

-- ---- the nodes on the paths of targets

module _ (xs : List ℕ) where
  -- how often node v stands on the path of t
  on : ℕ → ℕ → ℕ
  on t v = visits (length xs) (λ u. ltb (time_of xs u) t) 1 v

  on-sum : (t : ℕ) → sum_to (length xs) (on t) ≤ height (length xs)
  unfolding on visits
  on-sum t =
      let past : ℕ → Bool = λ u. ltb (time_of xs u) t in
      omega (arith, length-occurrences (length xs) _ (walk-among (length xs) never past 1 (le_refl 1)), walk-length (length xs) never past 1 (le_refl 1))

  -- 1 where it is on the path of one of the targets, else 0
  some : List ℕ → ℕ → ℕ
  some ts v = bit (on_path xs ts v)

  some-nil : (v : ℕ) → some [] v ≡ 0
  unfolding some on_path
  some-nil v = refl

  some-cons : (t : ℕ) (ts : List ℕ) (v : ℕ) → some (t ∷ ts) v ≡ max (min 1 (on t v)) (some ts v)
  unfolding some on_path on visits path
  some-cons t ts v = bit_or (occurrences v (path xs t)) (on_path xs ts v)

  some_one : (ts : List ℕ) (v : ℕ) → some ts v ≤ 1
  unfolding some
  some_one ts v = go (on_path xs ts v)
    where
      go : (b : Bool) → bit b ≤ 1
      go true = omega arith
      go false = omega arith

  some-few : (ts : List ℕ) → sum_to (length xs) (some ts) ≤ length ts * height (length xs)
  some-few [] = omega (arith, sum-none (length xs) some-nil)
  some-few (t ∷ ts) =
      omega (
        arith,
        on-sum t,
        some-few ts,
        sum-add (length xs) (on t) (some ts),
        sum-le (length xs) {f = some (t ∷ ts)} {g = λ v. on t v + some ts v} (λ v. omega (arith, some-cons t ts v)),
      )

-- what a target opens with what the later ones do
covered : (before now opened later r : ℕ) → r ≤ 1 → Covers before now opened → max (min 1 now) (min 1 later) ≡ max (min 1 now) r
    → max (min 1 before) (min 1 (opened + later)) ≡ max (min 1 before) (max (min 1 now) r)
covered (suc b) now opened later r h c _ = omega arith
covered zero (suc m) opened later r h c _ = omega arith
covered zero zero opened later r h c e = let z : opened + later ≡ later = omega arith in rw z (e ∙ omega arith)

-- ---- the nodes of a sweep are among 1 to n

-- a target goes on from 1 or more
from-one : (past : ℕ → Bool) (from : ℕ) (kept : List ℕ) → 1 ≤ from → 1 ≤ (dropped past from kept).from
unfolding dropped child_of
from-one past from [] h = h
from-one past from (v ∷ vs) h = go (past v) (from-one past (child_of true v) vs (omega arith))
  where
    go : (b : Bool) → 1 ≤ (dropped past (child_of true v) vs).from
        → 1 ≤ (cond b (dropped past (child_of true v) vs) (record { from = from; kept = v ∷ vs })).from
    go true l = l
    go false l = h

legs-among : (n : ℕ) (time : ℕ → Outcome ℕ) (from : ℕ) (kept ts : List ℕ) → 1 ≤ from → Among n (opened (legs_from n time from kept ts))
unfolding legs_from opened Among
legs-among n time from kept [] h = tt
legs-among n time from kept (t ∷ ts) h =
    let past = is_below time t in
    let d = dropped past from kept in
    let l = leg n time t d in
    among-append n l.nodes (opened (legs_from n time (suc n) l.kept ts)) (walk-among n never past d.from (from-one past from kept h))
    (legs-among n time (suc n) l.kept ts (omega arith))

pub sweep-among : (n : ℕ) (time : ℕ → Outcome ℕ) (ts : List ℕ) → Among n (sweep_nodes n time ts)
sweep-among n time ts = legs-among n time 1 [] ts (le_refl 1)

-- ---- a sweep, where no node's time is refused

module _ (xs : List ℕ) (time : ℕ → Outcome ℕ) (fine : (v : ℕ) → 1 ≤ v → v ≤ length xs → time v ≡ gives (time_of xs v)) (o : T (ordered xs)) where
  -- what the sweep remembers after target t
  abbrev kept_at : ℕ → List ℕ
  kept_at t = kept_from (length xs) time t [] 1

  -- going on as d says, target t remembers what its search does, and opens the nodes of its path, but for some that were opened before
  abbrev TargetGoes : Dropped → ℕ → (ℕ → ℕ) → Type 0
  TargetGoes d t before =
      (1 ≤ d.from)
      × (kept_from (length xs) time t d.kept d.from ≡ kept_at t)
      × ((v : ℕ) → Covers (before v) (on xs t v) (visits (length xs) (is_below time t) d.from v))

  on-search : (t v : ℕ) → visits (length xs) (is_below time t) 1 v ≡ on xs t v
  unfolding on visits path
  on-search t v = ap (occurrences v) (search-path xs time fine t)

  first-target : (t : ℕ) → TargetGoes (record { from = 1; kept = [] }) t (λ v. 0)
  first-target t = (le_refl 1, refl, λ v. omega (arith, on-search t v))

  later-target : (s t : ℕ) → s ≤ t → TargetGoes (dropped (is_below time t) (suc (length xs)) (kept_at s)) t (on xs s)
  unfolding Continues dropped
  later-target s t h =
      let r = continues (length xs) (is_below time s) (is_below time t) (smaller s xs) (smaller t xs)
      (search-cuts xs time fine o s) (search-cuts xs time fine o t)
      (tree (length xs)) (smaller-mono s t xs h) [] (λ g. refl) in
      (r.0, r.1, λ v. omega (arith, r.2 v, on-search t v, on-search s v))

  -- what these targets open: nodes which with those opened before are the ones on paths; and their positions
  record LegsGo (ts : List ℕ) (ls : List Leg) (before : ℕ → ℕ) : Type 0 where
    cover : (v : ℕ) → max (min 1 (before v)) (min 1 (occurrences v (opened ls))) ≡ max (min 1 (before v)) (some xs ts v)
    places : positions (length xs) time ls ≡ map (λ t. smaller t xs) ts

  no-leg : (before : ℕ → ℕ) → LegsGo [] [] before
  unfolding opened positions occurrences
  no-leg before = record { cover = λ v. rw (some-nil xs v); places = refl }

  next-leg : (l : Leg) (t : ℕ) (ts : List ℕ) {before : ℕ → ℕ} → Among (length xs) l.nodes → l.kept ≡ kept_at t
      → ((v : ℕ) → Covers (before v) (on xs t v) (occurrences v l.nodes)) → LegsGo ts (legs_from (length xs) time (suc (length xs)) (kept_at t) ts) (on xs t)
      → LegsGo (t ∷ ts) (l ∷ legs_from (length xs) time (suc (length xs)) l.kept ts) before
  unfolding opened positions
  next-leg l t ts {before} a k e later = rw k record {
    cover = λ v. rw (occurrences-append v l.nodes _, some-cons xs t ts v)
        (covered (before v) (on xs t v) _ _ (some xs ts v) (some_one xs ts v) (e v) (later.cover v));
    places =
        rw (met-none (length xs) time (time_of xs) fine (position (length xs) (kept_at t)) l.nodes a)
        (ap₂ (λ (x : ℕ) (ys : List ℕ). x ∷ ys) (search-position xs time fine o t) later.places);
  }

  target-leg : (from : ℕ) (kept : List ℕ) (t : ℕ) (ts : List ℕ) {before : ℕ → ℕ} → TargetGoes (dropped (is_below time t) from kept) t before
      → LegsGo ts (legs_from (length xs) time (suc (length xs)) (kept_at t) ts) (on xs t)
      → LegsGo (t ∷ ts) (legs_from (length xs) time from kept (t ∷ ts)) before
  unfolding legs_from visits
  target-leg from kept t ts r later =
      let d = dropped (is_below time t) from kept in
      next-leg (leg (length xs) time t d) t ts (walk-among (length xs) never (is_below time t) d.from r.0) r.1 r.2 later

  later-legs : (t : ℕ) (ts : List ℕ) → T (ordered (t ∷ ts)) → LegsGo ts (legs_from (length xs) time (suc (length xs)) (kept_at t) ts) (on xs t)
  unfolding legs_from
  later-legs t [] q = no-leg (on xs t)
  later-legs t (u ∷ us) q =
      let r = ordered-head t u us q in
      target-leg (suc (length xs)) (kept_at t) u us (later-target t u r.0) (later-legs u us r.1)

  all-legs : (ts : List ℕ) → T (ordered ts) → LegsGo ts (legs (length xs) time ts) (λ v. 0)
  unfolding legs_from dropped
  all-legs [] q = no-leg (λ v. 0)
  all-legs (t ∷ ts) q = target-leg 1 [] t ts (first-target t) (later-legs t ts q)

  module _ (ts : List ℕ) (q : T (ordered ts)) where
    pub sweep-positions : sweep_positions (length xs) time ts ≡ map (λ t. smaller t xs) ts
    sweep-positions = (all-legs ts q).places

    -- a node is opened once where it is on a path, and else not at all
    pub sweep-once : (v : ℕ) → occurrences v (sweep_nodes (length xs) time ts) ≡ bit (on_path xs ts v)
    unfolding some
    sweep-once v = omega (arith, (all-legs ts q).cover v, some_one xs ts v, nodes-once (length xs) time ts v)

    pub sweep-sums : (f : ℕ → ℕ) → sum (map f (sweep_nodes (length xs) time ts)) ≡ over_different xs ts f
    sweep-sums f =
        sum-occurrences (length xs) f _ (sweep-among (length xs) time ts)
        ∙ sum_same (length xs) (λ v. ap (λ (x : ℕ). x * f v) (sweep-once v) ∙ times (on_path xs ts v) (f v))
      where
        times : (b : Bool) (x : ℕ) → bit b * x ≡ cond b x 0
        times true x = omega arith
        times false x = omega arith

    pub sweep-answer : sweep_answer (length xs) time ts ≡ gives (different xs ts)
    sweep-answer =
        met-none (length xs) time (time_of xs) fine _ _ (sweep-among (length xs) time ts)
        ∙ ap gives (length-occurrences (length xs) _ (sweep-among (length xs) time ts) ∙ sum_same (length xs) sweep-once)

-- ---- different nodes

pub different-pins : (xs ts : List ℕ) → different xs ts ≤ length xs
different-pins xs ts = count-le (length xs) (on_path xs ts)

pub different-heights : (xs ts : List ℕ) → different xs ts ≤ length ts * height (length xs)
unfolding some
different-heights xs ts = some-few xs ts
