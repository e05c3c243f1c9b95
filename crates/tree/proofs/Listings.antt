-- A listing by stretches: what is listed of a left side, the root and a right side, one after the other.
use Rattle.std.proofs.lemmas.List.{drop-replicate}
use Rattle.std.proofs.Common.{Result, Ok, Err}
use mathlib.Core.Path.{◌≡◌, refl, sym, ap, subst, ◌∙◌}
use mathlib.Core.Bool.{Bool, true, false}
use mathlib.Core.List.{List, [], ◌∷◌, ◌++◌, append-nil}
use Prim.Native.Nat.{ℕ, zero, suc, ◌+◌, ◌-◌, ◌≤◌, ◌<◌}
use native.Mathlib.Nat.{zero-add, add-zero, add-suc}
use native.Mathlib.Omega.{arith}
use lib.ListN.{length, set, get_or, replicate, length-append}
use borrow.Author.Tests.{lt-ltb, le-ltb}
use Rattle.codes.specs.Lists.{replaced, filled_to}
use Rattle.codes.proofs.Promises.{list-laws}
use Rattle.tree.specs.declared.nodes.Levels.{Levels}
use Rattle.tree.specs.declared.nodes.Refusal.{Refusal}
use Rattle.tree.specs.declared.listing.Stop.{Stop}
use Rattle.tree.specs.declared.shape.Stretch.{Stretch}
use Rattle.tree.specs.Shape.{root_place, child_of, side_of, rank}
use Rattle.tree.specs.Stored.{time_of}
use Rattle.tree.specs.declared.walking.Found.{Found}
use Rattle.tree.specs.Outcomes.{Outcome, gives, refuses, follow, after, Test}
use Rattle.tree.specs.Times.{refusal, times_in}
use Rattle.tree.specs.Walks.{found, toward, access_answer}
use Rattle.tree.specs.Listing.{accesses, times_from, stop_from, times_all, stop_all, Lists}
use Rattle.tree.specs.Standing.{Stands, Reaches}
use Rattle.tree.specs.Merged.{KnownRanks}
use Rattle.tree.proofs.Outcomes.{gives-refuses}
use Rattle.tree.proofs.Paths.{access-answer}
use Rattle.tree.proofs.Steps.{stands-place, stands-rank, stands-node, stands-child, access-end, access-refused, access-step}

-- the times of a stretch, where the listing gets to it
abbrev unless_refused : Test → List ℕ → List ℕ
unless_refused z later = follow (λ r c. []) z (λ _. later)

module _ (answer : ℕ → Outcome Found) where
  -- where nothing is refused every position has a time
  pub times-all : (k i : ℕ) → stop_from answer k i ≡ gives tt → length (times_from answer k i) ≡ k
  unfolding times_from stop_from
  times-all zero i e = refl
  times-all (suc k) i e = go (answer i) e (times-all k (suc i))
    where
      go : (x : Outcome Found) → after x (λ f. stop_from answer k (suc i)) ≡ gives tt → (stop_from answer k (suc i) ≡ gives tt → length (times_from answer k (suc i)) ≡ k)
          → length (follow (λ r c. []) x (λ f. f.value ∷ times_from answer k (suc i))) ≡ suc k
      go (gives f) q later = ap suc (later q)
      go (refuses r c) q later = absurd (gives-refuses (sym q))

  -- two stretches one after the other
  listed-both : (a b i : ℕ) → (stop_from answer (b + a) i ≡ after (stop_from answer a i) (λ _. stop_from answer b (i + a)))
      × (times_from answer (b + a) i ≡ times_from answer a i ++ unless_refused (stop_from answer a i) (times_from answer b (i + a)))
  unfolding times_from stop_from
  listed-both zero b i = rw (add-zero b, add-zero i) (refl, refl)
  listed-both (suc a) b i = let e : suc i + a ≡ i + suc a = omega arith in rw (add-suc b a) (go (answer i) (rw e at (listed-both a b (suc i))))
    where
      go : (x : Outcome Found)
          → (stop_from answer (b + a) (suc i) ≡ after (stop_from answer a (suc i)) (λ _. stop_from answer b (i + suc a)))
          × (times_from answer (b + a) (suc i) ≡ times_from answer a (suc i) ++ unless_refused (stop_from answer a (suc i)) (times_from answer b (i + suc a)))
          → (after x (λ f. stop_from answer (b + a) (suc i)) ≡ after (after x (λ f. stop_from answer a (suc i))) (λ _. stop_from answer b (i + suc a)))
          × (follow (λ r c. []) x (λ f. f.value ∷ times_from answer (b + a) (suc i))
          ≡ follow (λ r c. []) x (λ f. f.value ∷ times_from answer a (suc i)) ++ unless_refused (after x (λ f. stop_from answer a (suc i))) (times_from answer b (i + suc a)))
      go (gives f) e = (e.0, ap (λ (l : List ℕ). f.value ∷ l) e.1)
      go (refuses r c) e = (refl, refl)

  -- a position between them that has a time
  listed-around : (a b i x k : ℕ) → answer (i + a) ≡ gives (found x k) → (stop_from answer (suc b + a) i ≡ after (stop_from answer a i) (λ _. stop_from answer b (suc (i + a))))
      × (times_from answer (suc b + a) i ≡ times_from answer a i ++ unless_refused (stop_from answer a i) (x ∷ times_from answer b (suc (i + a))))
  unfolding times_from stop_from
  listed-around a b i x k e = rw e at (listed-both a (suc b) i)

  -- a refusal at the first position
  listed_here : (k i r c : ℕ) → 1 ≤ k → answer i ≡ refuses r c → (stop_from answer k i ≡ refuses r c) × (times_from answer k i ≡ [])
  unfolding times_from stop_from
  listed_here zero i r c h e = absurd (omega arith)
  listed_here (suc k) i r c h e = rw e (refl, refl)

  -- where access finds the times of a list
  times-found : (xs : List ℕ) (i : ℕ) (nodes : ℕ → ℕ) → ((j : ℕ) → j < length xs → answer (i + j) ≡ gives (found (get_or xs j 0) (nodes j)))
      → (times_from answer (length xs) i ≡ xs) × (stop_from answer (length xs) i ≡ gives tt)
  unfolding times_from stop_from
  times-found [] i nodes h = (refl, refl)
  times-found (x ∷ xs) i nodes h =
      let e : answer i ≡ gives (found x (nodes 0)) = rw (add-zero i) at (h 0 (omega arith)) in
      let later = times-found xs (suc i) (λ j. nodes (suc j)) (λ j k. let f : suc i + j ≡ i + suc j = omega arith in rw f (h (suc j) (omega arith))) in
      rw (e, later.0, later.1) (refl, refl)

-- where every node of the list's tree has its time
pub times-known : (xs : List ℕ) (time : ℕ → Outcome ℕ) → ((v : ℕ) → 1 ≤ v → v ≤ length xs → time v ≡ gives (time_of xs v))
    → let answer = access_answer (length xs) time in (times_from answer (length xs) 0 ≡ xs) × (stop_from answer (length xs) 0 ≡ gives tt)
times-known xs time fine =
    times-found (access_answer (length xs) time) xs 0 (λ j. length (toward (length xs) j)) (λ j h. rw (zero-add j) (access-answer xs time fine j h))

-- where they stand at their ranks
pub ranks-known : (levels : Levels) (s list : List ℕ) → levels.pins ≡ length list → KnownRanks levels s levels.pins list
    → (times_all levels s ≡ list) × (stop_all levels s ≡ gives tt)
unfolding time_of
ranks-known levels s list pins known =
    subst (λ (k : ℕ). let answer = access_answer k (times_in levels s) in (times_from answer k 0 ≡ list) × (stop_from answer k 0 ≡ gives tt)) (sym pins)
    (times-known list (times_in levels s) (λ v a b. rw (← pins) (known v a (rw pins b))))

-- ---- at a node

module _ {levels : Levels} {s : List ℕ} {v depth above : ℕ} {here : Stretch}
    (w : Stands levels s v depth here above) (reach : Reaches levels s v depth here) (some : 1 ≤ here.pins) where
  abbrev start : ℕ
  start = here.start

  abbrev pins : ℕ
  pins = here.pins

  abbrev place : ℕ
  place = root_place here.pins

  node : v ≤ levels.pins
  node = stands-node w some

  pub lists-refused : {r : Refusal} → times_in levels s v ≡ refusal r → (times : List ℕ)
      → Lists (accesses levels s) pins start (Err (record { position = start; refusal = r })) × (times ≡ replaced times start (times_from (accesses levels s) pins start))
  lists-refused {r} e times =
      let z = listed_here (accesses levels s) pins start _ _ some
      (sym (reach start (omega arith) (omega arith)) ∙ access-refused levels.pins (times_in levels s) start depth v _ _ w.one node e) in
      rw z.1 (
        record { outcome = sym z.0; ends = rw z.1 (sym (add-zero start)) },
        sym (list-laws.replaced_none times start),
      )

  module _ {x : ℕ} (e : times_in levels s v ≡ gives x) where
    place_is : (1 ≤ place) × (place ≤ pins)
    place_is = stands-place w node

    rank_is : rank levels.pins v ≡ start + (place - 1)
    rank_is = stands-rank w ∙ omega (arith, place_is)

    -- accesses to a side come to its root
    reach-child : (right : Bool) → Reaches levels s (child_of right v) (depth + 1) (side_of right here)
    reach-child true i lo hi =
        let r : rank levels.pins v < i = omega (arith, rank_is, place_is) in
        rw (lt-ltb (rank levels.pins v) i r) at (sym (access-step levels.pins (times_in levels s) i depth v x w.one node e (λ z. omega arith)))
        ∙ reach i (omega arith) (omega (arith, place_is))
    reach-child false i lo hi =
        let r : i < rank levels.pins v = omega (arith, rank_is, place_is) in
        rw (le-ltb (rank levels.pins v) i (omega arith)) at (sym (access-step levels.pins (times_in levels s) i depth v x w.one node e (λ z. omega arith)))
        ∙ reach i (omega arith) (omega (arith, place_is))

    pub stands-side : (right : Bool) {side : Stretch} → side ≡ side_of right here
        → Stands levels s (child_of right v) (depth + 1) side x × Reaches levels s (child_of right v) (depth + 1) side
    stands-side right is = rw is (stands-child w right x node e, reach-child right)

    abbrev before-it : List ℕ
    before-it = times_from (accesses levels s) (place - 1) start

    abbrev after-it : List ℕ
    after-it = times_from (accesses levels s) (pins - place) (start + place)

    abbrev first : Test
    first = stop_from (accesses levels s) (place - 1) start

    time-here : accesses levels s (start + (place - 1)) ≡ gives (found x (depth + 1))
    time-here =
        sym (reach (start + (place - 1)) (omega arith) (omega (arith, place_is)))
        ∙ access-end levels.pins (times_in levels s) (start + (place - 1)) depth v x w.one node e rank_is

    both : (stop_from (accesses levels s) pins start ≡ after first (λ _. stop_from (accesses levels s) (pins - place) (start + place)))
        × (times_from (accesses levels s) pins start ≡ before-it ++ unless_refused first (x ∷ after-it))
    both =
        let split : suc (pins - place) + (place - 1) ≡ pins = omega (arith, place_is) in
        let next : suc (start + (place - 1)) ≡ start + place = omega (arith, place_is) in
        rw (split, next) at (listed-around (accesses levels s) (place - 1) (pins - place) start x (depth + 1) time-here)

    -- the left side ends the listing
    pub lists-left : {side : Stretch} → side ≡ side_of false here → {r : Result (Unit {0}) Stop} {q : Stop} → r ≡ Err q
        → Lists (accesses levels s) side.pins side.start r → (before left : List ℕ)
        → left ≡ replaced before side.start (times_from (accesses levels s) side.pins side.start)
        → Lists (accesses levels s) pins start (Err q) × (left ≡ replaced before start (times_from (accesses levels s) pins start))
    lists-left is {r} {q} stops l before left done =
        let z : Lists (accesses levels s) (place - 1) start (Err q) = rw (is, stops) at l in
        let times : times_from (accesses levels s) pins start ≡ before-it = both.1 ∙ rw (← z.outcome) (append-nil before-it) in
        (record { outcome = sym (both.0 ∙ rw (← z.outcome)); ends = rw times z.ends }, rw times (rw is at done))

    -- the right side ends it, or nothing does
    pub lists-right : {l : Stretch} → l ≡ side_of false here → {p : Result (Unit {0}) Stop} → p ≡ Ok tt → Lists (accesses levels s) l.pins l.start p
        → (before left : List ℕ) → left ≡ replaced before l.start (times_from (accesses levels s) l.pins l.start) → start + pins ≤ length before
        → {r : Stretch} → r ≡ side_of true here → {q : Result (Unit {0}) Stop} → Lists (accesses levels s) r.pins r.start q
        → (after : List ℕ) → after ≡ replaced (set left (start + place - 1) x) r.start (times_from (accesses levels s) r.pins r.start)
        → Lists (accesses levels s) pins start q × (after ≡ replaced before start (times_from (accesses levels s) pins start))
    lists-right il all-there fine before left done room ir {q} later after-all last =
        let y : Lists (accesses levels s) (place - 1) start (Ok tt) = rw (il, all-there) at fine in
        let z : Lists (accesses levels s) (pins - place) (start + place) q = rw ir at later in
        let times : times_from (accesses levels s) pins start ≡ before-it ++ x ∷ after-it = both.1 ∙ rw (← y.outcome) in
        let l = times-all (accesses levels s) (place - 1) start (sym y.outcome) in
        let n : start + place - 1 + 1 ≡ start + place = omega (arith, place_is) in
        let all : start + pins ≡ start + place + (pins - place) = omega (arith, place_is) in (
          record {
            outcome = z.outcome ∙ sym (both.0 ∙ rw (← y.outcome));
            ends = rw (times, all) (z.ends ∙ omega (arith, place_is, l, length-append before-it (x ∷ after-it)));
          },
          rw times ((rw ir at last) ∙ rw (rw il at done)
              (rw n at (list-laws.replaced_around before start (start + place - 1) before-it x after-it (omega (arith, place_is, l)) (omega (arith, place_is))))),
        )

-- ---- a buffer that is 0 behind its entries

-- entries written to the front of n zeros
pub filled-front : (n : ℕ) (xs : List ℕ) {zs after : List ℕ} → zs ≡ replicate n 0 → after ≡ replaced zs 0 xs → after ≡ filled_to n xs
filled-front n xs z f = f ∙ rw (z, zero-add (length xs)) (ap (λ (zs : List ℕ). xs ++ zs) (drop-replicate (length xs) n 0))
