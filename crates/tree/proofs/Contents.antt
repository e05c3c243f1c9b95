-- Going down what a list's tree stores gives each node the list's time at its rank.
use Rattle.std.proofs.Common.{◌≡◌, ap, ◌∙◌, List, ℕ, zero, suc, ◌+◌, ◌-◌, ◌/◌, ◌%◌, ◌^◌, ◌≤◌, ◌<◌, le_refl, arith, T, length, lt-ltb, le-ltb, ne_eqb}
use native.Mathlib.Decide.{dec_lt, ℕ_discrete}
use lib.Arith.{half_le}
use Rattle.codes.specs.Codes.{Within}
use Rattle.codes.specs.Fetch.{Fetched, value}
use Rattle.tree.specs.Shape.{rank}
use Rattle.tree.specs.Lists.{ordered}
use Rattle.tree.specs.Stored.{time_of, time_above, stored}
use Rattle.tree.specs.Outcomes.{gives}
use Rattle.tree.specs.Times.{under, node_time}
use Rattle.tree.proofs.Stretches.{Child, left, right, child}
use Rattle.tree.proofs.NodeTimes.{time-above, time-step}
use Rattle.tree.proofs.Orders.{get_or-ordered}
use Rattle.tree.proofs.Ranks.{rank_lt, rank_left, rank_right}

-- above the root, and above any other node
pub above_root : (xs : List ℕ) (v : ℕ) → v < 2 → time_above xs v ≡ 0
unfolding time_above
above_root xs v h = rw (lt-ltb v 2 h)

pub above-child : (xs : List ℕ) (v : ℕ) → 2 ≤ v → time_above xs v ≡ time_of xs (v / 2)
unfolding time_above
above-child xs v h = rw (le-ltb v 2 h)

-- a parent that has the list's time
pub above_at : (xs : List ℕ) (fetch : ℕ → Fetched) (v : ℕ) → 1 ≤ v → (1 ≤ v / 2 → node_time fetch (v / 2) ≡ gives (time_of xs (v / 2)))
    → node_time fetch (v / 2) ≡ gives (time_above xs v)
above_at xs fetch v h r = elim (dec_lt v 2) [
  | yes l ↦ let e : v / 2 ≡ 0 = omega arith in rw (e, above_root xs v l) (time-above fetch)
  | no l ↦ rw (above-child xs v (omega arith)) (r (omega arith))
]

module _ (xs : List ℕ) (o : T (ordered xs)) where
  time-ordered : (u v : ℕ) → rank (length xs) u < rank (length xs) v → rank (length xs) v < length xs → time_of xs u ≤ time_of xs v
  unfolding time_of
  time-ordered u v h k = get_or-ordered xs o (rank (length xs) u) (rank (length xs) v) (omega arith) k

  -- a left child's time is at most its parent's, a right child's at least
  pub record Sides (v : ℕ) : Type 0 where
    pub even : v % 2 ≡ 0 → time_of xs v ≤ time_above xs v
    pub odd : v % 2 ≡ 1 → time_above xs v ≤ time_of xs v

  pub sides : (v : ℕ) → 1 ≤ v → v ≤ length xs → Sides v
  sides v h k = elim (dec_lt v 2) [
    | yes y ↦ record { even = λ e. absurd (omega arith); odd = λ e. rw (above_root xs v y) (omega arith) }
    | no y ↦ go (child v (omega arith)) (above-child xs v (omega arith))
  ]
    where
      go : Child v → time_above xs v ≡ time_of xs (v / 2) → Sides v
      go (left u p e) a =
          let ev : v / 2 ≡ u = omega arith in
          let r : rank (length xs) v < rank (length xs) u = rw e (rank_left (length xs) u p (omega arith)) in
          let t = time-ordered v u r (rank_lt (length xs) u p (omega arith)) in
          record { even = λ z. rw (a, ev) t; odd = λ z. absurd (omega arith) }
      go (right u p e) a =
          let ev : v / 2 ≡ u = omega arith in
          let r : rank (length xs) u < rank (length xs) v = rw e (rank_right (length xs) u p (omega arith)) in
          let t = time-ordered u v r (rank_lt (length xs) v h k) in
          record { even = λ z. absurd (omega arith); odd = λ z. rw (a, ev) t }

  module _ (bound : Within 32 xs) where
    time-small : (v : ℕ) → time_of xs v < 2 ^ 32
    unfolding time_of
    time-small v = bound (rank (length xs) v)

    under-stored : (v : ℕ) → 1 ≤ v → v ≤ length xs → under v (gives (time_above xs v)) (value (stored xs v)) ≡ gives (time_of xs v)
    unfolding stored
    under-stored v h k = elim (ℕ_discrete (v % 2) 0) [
      | yes e ↦
          let s = (sides v h k).even e in
          rw (e, le-ltb (time_above xs v) (time_above xs v - time_of xs v) (omega arith)) (ap gives (omega arith))
      | no e ↦
          let s = (sides v h k).odd (omega arith) in
          let b : time_above xs v + (time_of xs v - time_above xs v) < 4294967296 = omega (arith, time-small v) in
          rw (ne_eqb (v % 2) 0 e, lt-ltb (time_above xs v + (time_of xs v - time_above xs v)) 4294967296 b) (ap gives (omega arith))
    ]

    module _ (fetch : ℕ → Fetched) (holds : (v : ℕ) → 1 ≤ v → v ≤ length xs → fetch v ≡ value (stored xs v)) where
      times-to : (f v : ℕ) → v ≤ f → 1 ≤ v → v ≤ length xs → node_time fetch v ≡ gives (time_of xs v)
      times-to zero v a b c = absurd (omega arith)
      times-to (suc f) v a b c =
          time-step fetch v b ∙ rw (above_at xs fetch v b (λ d. times-to f (v / 2) (half_le a) d (omega arith)), holds v b c) (under-stored v b c)

      pub times-back : (v : ℕ) → 1 ≤ v → v ≤ length xs → node_time fetch v ≡ gives (time_of xs v)
      times-back v h k = times-to v v (le_refl v) h k
