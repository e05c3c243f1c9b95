-- Every time that access gives, and so every time that is listed, has 32 bits.
use Rattle.std.proofs.Common.{◌≡◌, refl, ap, List, [], ◌∷◌, ℕ, zero, suc, ◌+◌, ◌/◌, ◌%◌, ◌^◌, ◌<◌, arith, lt-ltb, le-ltb, ne_eqb}
use native.Mathlib.Decide.{dec_lt, ℕ_discrete}
use Rattle.codes.specs.Codes.{Within}
use Rattle.codes.specs.Fetch.{Fetched, value, outside}
use Rattle.tree.specs.declared.nodes.Levels.{Levels}
use Rattle.tree.specs.Shape.{height}
use Rattle.tree.specs.Levels.{fetched_at}
use Rattle.tree.specs.declared.walking.Found.{Found}
use Rattle.tree.specs.Outcomes.{Outcome, gives, refuses, follow, known}
use Rattle.tree.specs.Times.{under, node_time_in, node_time, times_in}
use Rattle.tree.specs.Walks.{toward, last_of, access_answer}
use Rattle.tree.specs.Listing.{accesses, times_from}
use Rattle.tree.proofs.Walks.{met-gives}

time-within : (fetch : ℕ → Fetched) (v : ℕ) → known (node_time fetch v) < 2 ^ 32
unfolding node_time node_time_in
time-within fetch v = go (height v) v
  where
    below : (x : Outcome ℕ) → known x < 2 ^ 32 → (u : ℕ) (d : Fetched) → known (under u x d) < 2 ^ 32
    below (refuses r u) h w d = h
    below (gives p) h u outside = omega arith
    below (gives p) h u (value d) = elim (ℕ_discrete (u % 2) 0) [
      | yes e ↦ elim (dec_lt p d) [
        | yes l ↦ rw (e, lt-ltb p d l) (omega arith)
        | no l ↦ rw (e, le-ltb p d (omega arith)) (omega arith)
      ]
      | no e ↦ elim (dec_lt (p + d) (2 ^ 32)) [
        | yes l ↦ rw (ne_eqb (u % 2) 0 e, lt-ltb (p + d) (2 ^ 32) l) l
        | no l ↦ rw (ne_eqb (u % 2) 0 e, le-ltb (p + d) (2 ^ 32) (omega arith)) (omega arith)
      ]
    ]

    go : (f u : ℕ) → known (node_time_in f fetch u) < 2 ^ 32
    go zero u = omega arith
    go (suc f) u = below (node_time_in f fetch (u / 2)) (go f (u / 2)) u (fetch u)

pub access-small : (levels : Levels) (s : List ℕ) (i : ℕ) (f : Found) → accesses levels s i ≡ gives f → f.value < 2 ^ 32
unfolding access_answer
access-small levels s i f e =
    let nodes = toward levels.pins i in
    let same = ap (λ (g : Found). g.value) (met-gives (times_in levels s) nodes _ f e) in
    omega (arith, same, time-within (fetched_at levels s) (last_of 0 nodes))

pub times-within : (levels : Levels) (s : List ℕ) (k i : ℕ) → Within 32 (times_from (accesses levels s) k i)
unfolding times_from
times-within levels s zero i j = omega arith
times-within levels s (suc k) i j =
    go (accesses levels s i) (access-small levels s i) (times_from (accesses levels s) k (suc i)) (times-within levels s k (suc i)) j
  where
    go : (x : Outcome Found) → ((f : Found) → x ≡ gives f → f.value < 2 ^ 32) → (later : List ℕ) → Within 32 later
        → Within 32 (follow (λ r c. []) x (λ f. f.value ∷ later))
    go (gives f) h later w zero = h f refl
    go (gives f) h later w (suc l) = w l
    go (refuses r c) h later w l = omega arith
