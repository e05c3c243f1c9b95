-- Where every position has a time, the nodes have the times of that list at their ranks, and what is fetched for them is what the
-- list's tree stores.
use Rattle.std.proofs.Common.{◌≡◌, refl, sym, ap, ◌∙◌, true, cond, List, [], ◌∷◌, ℕ, zero, suc, ◌+◌, ◌-◌, ◌/◌, ◌%◌, ◌^◌, ◌≤◌, ◌<◌, zero-add, add-zero}
use Rattle.std.proofs.Common.{le_refl, arith, ltb, length, get_or, ext_get_or, pow_pos, lt-ltb, le-ltb, eq-eqb, ne_eqb}
use mathlib.Core.Bool.{false≢true}
use native.Mathlib.Decide.{dec_lt, ℕ_discrete}
use Rattle.codes.specs.Codes.{part}
use Rattle.codes.specs.Choice.{chosen}
use Rattle.codes.specs.Fetch.{Fetched, value, outside}
use Rattle.codes.specs.Decode.{Decoded, all, undecoded}
use Rattle.codes.proofs.Promises.{decode-fetches, chosen-parts}
use Rattle.tree.specs.declared.nodes.Levels.{Levels}
use Rattle.tree.specs.Shape.{height, rank}
use Rattle.tree.specs.Stored.{time_of, time_above, difference, stored, stored_values}
use Rattle.tree.specs.Levels.{count_of, code_of, part_of, level_values, fetched_at}
use Rattle.tree.specs.declared.walking.Found.{Found}
use Rattle.tree.specs.Outcomes.{Outcome, gives, refuses, follow, after, known, verdict}
use Rattle.tree.specs.Times.{under, times_in}
use Rattle.tree.specs.Walks.{met, toward, last_of, access_answer}
use Rattle.tree.specs.Listing.{accesses, times_from, stop_from, times_all, stop_all}
use Rattle.tree.specs.DecodedLevels.{decoded_at}
use Rattle.tree.specs.Chosen.{chosen_by, level_chosen}
use Rattle.tree.specs.Promises.{ChosenStored}
use Rattle.tree.proofs.Heights.{height-above}
use Rattle.tree.proofs.NodeFetches.{count_is, level-is}
use Rattle.tree.proofs.NodeTimes.{time-step}
use Rattle.tree.proofs.Ranks.{rank_lt}
use Rattle.tree.proofs.Outcomes.{gives-refuses}
use Rattle.tree.proofs.Walks.{met-gives}
use Rattle.tree.proofs.Listings.{times-all}
use Rattle.tree.proofs.Paths.{toward-rank, last-from_root, from_root-length}
use Rattle.tree.proofs.Contents.{above_at}
use Rattle.tree.proofs.LevelValues.{length-stored, get_or-stored, level-at, level-inside, level-length}
use Rattle.tree.proofs.LevelsChosen.{chosen-each}

-- ---- what access finds at each position

found_from : (answer : ℕ → Outcome Found) (k i j : ℕ) → stop_from answer k i ≡ gives tt → j < k
    → (f : Found) × (answer (i + j) ≡ gives f) × (get_or (times_from answer k i) j 0 ≡ f.value)
unfolding times_from stop_from
found_from answer zero i j e h = absurd (omega arith)
found_from answer (suc k) i j e h = go (answer i) refl e j h (found_from answer k (suc i))
  where
    go : (x : Outcome Found) → answer i ≡ x → after x (λ f. stop_from answer k (suc i)) ≡ gives tt → (j : ℕ) → j < suc k
        → ((j : ℕ) → stop_from answer k (suc i) ≡ gives tt → j < k
        → (f : Found) × (answer (suc i + j) ≡ gives f) × (get_or (times_from answer k (suc i)) j 0 ≡ f.value))
        → (f : Found) × (answer (i + j) ≡ gives f) × (get_or (follow (λ r c. []) x (λ f. f.value ∷ times_from answer k (suc i))) j 0 ≡ f.value)
    go (gives f) p q zero l r = (f, rw (add-zero i) p, refl)
    go (gives f) p q (suc j) l r = let s : suc i + j ≡ i + suc j = omega arith in rw s at (r j q (omega arith))
    go (refuses x c) p q j l r = absurd (gives-refuses (sym q))

-- the last node of a walk that is not refused has a time
met-last : {A : Type 0} (time : ℕ → Outcome ℕ) (d : ℕ) (a b : A) (vs : List ℕ) → 1 ≤ length vs → met time vs a ≡ gives b
    → time (last_of d vs) ≡ gives (known (time (last_of d vs)))
unfolding met verdict last_of
met-last time d a b [] h e = absurd (omega arith)
met-last time d a b (v ∷ []) h e = go (time v) e
  where
    go : (y : Outcome ℕ) → after y (λ _. gives a) ≡ gives b → y ≡ gives (known y)
    go (gives z) q = refl
    go (refuses r u) q = absurd (gives-refuses (sym q))
met-last time d a b (v ∷ w ∷ vs) h e = go (time v) e (met-last time v a b (w ∷ vs) (omega arith))
  where
    go : (y : Outcome ℕ) → after y (λ _. met time (w ∷ vs) a) ≡ gives b
        → (met time (w ∷ vs) a ≡ gives b → time (last_of w vs) ≡ gives (known (time (last_of w vs))))
        → time (last_of w vs) ≡ gives (known (time (last_of w vs)))
    go (gives z) q r = r q
    go (refuses x c) q r = absurd (gives-refuses (sym q))

-- ---- the nodes

module _ (levels : Levels) (s : List ℕ) (whole : stop_all levels s ≡ gives tt) where
  abbrev list : List ℕ
  list = times_all levels s

  list_length : length list ≡ levels.pins
  list_length = times-all (accesses levels s) levels.pins 0 whole

  node-time : (v : ℕ) → 1 ≤ v → v ≤ levels.pins → times_in levels s v ≡ gives (time_of list v)
  unfolding time_of access_answer
  node-time v h k =
      let n = levels.pins in
      let time = times_in levels s in
      let i = rank n v in
      let (f, e, t) = found_from (accesses levels s) n 0 i whole (rank_lt n v h k) in
      let is : access_answer n time i ≡ gives f = rw (zero-add i) at e in
      let last : last_of 0 (toward n i) ≡ v = ap (last_of 0) (toward-rank n v h k) ∙ last-from_root v h in
      let some : 1 ≤ length (toward n i) = rw (toward-rank n v h k, from_root-length v) (height-above v 0 h) in
      let own = rw last at (met-last time 0 _ f (toward n i) some is) in
      let same : known (time v) ≡ f.value = rw last at (ap (λ (g : Found). g.value) (met-gives time (toward n i) _ f is)) in
      rw list_length (own ∙ ap gives (same ∙ sym t))

  -- what is fetched for a node follows from its time and its parent's
  node-value : (v p t : ℕ) (x : Fetched) → under v (gives p) x ≡ gives t → x ≡ value (difference v p t)
  node-value v p t outside e = absurd (let z : ◌≡◌ {A = ℕ} 0 1 = cc in omega arith)
  node-value v p t (value d) e = elim (ℕ_discrete (v % 2) 0) [
    | yes q ↦ rw (eq-eqb (v % 2) 0 q) (even (dec_lt p d) (rw (eq-eqb (v % 2) 0 q) at e))
    | no q ↦ rw (ne_eqb (v % 2) 0 q) (odd (dec_lt (p + d) (2 ^ 32)) (rw (ne_eqb (v % 2) 0 q) at e))
  ]
    where
      even : Dec (p < d) → cond (ltb p d) (refuses 10 v) (gives (p - d)) ≡ gives t → value d ≡ value (p - t)
      even (yes h) f = let g : refuses 10 v ≡ gives t = rw (lt-ltb p d h) at f in absurd (let z : ◌≡◌ {A = ℕ} 0 1 = cc in omega arith)
      even (no h) f = let g : gives (p - d) ≡ gives t = rw (le-ltb p d (omega arith)) at f in let t-is : p - d ≡ t = ap known g in ap value (omega arith)

      odd : Dec (p + d < 2 ^ 32) → cond (ltb (p + d) (2 ^ 32)) (gives (p + d)) (refuses 10 v) ≡ gives t → value d ≡ value (t - p)
      odd (yes h) f = let g : gives (p + d) ≡ gives t = rw (lt-ltb (p + d) (2 ^ 32) h) at f in let t-is : p + d ≡ t = ap known g in ap value (omega arith)
      odd (no h) f = let g : refuses 10 v ≡ gives t = rw (le-ltb (p + d) (2 ^ 32) (omega arith)) at f in absurd (let z : ◌≡◌ {A = ℕ} 0 1 = cc in omega arith)

  listed-value : (v : ℕ) → 1 ≤ v → v ≤ levels.pins → fetched_at levels s v ≡ value (stored list v)
  unfolding stored
  listed-value v h k =
      let above = above_at list (fetched_at levels s) v h (λ d. node-time (v / 2) d (omega arith)) in
      node-value v (time_above list v) (time_of list v) (fetched_at levels s v) (rw above at (sym (time-step (fetched_at levels s) v h)) ∙ node-time v h k)

  -- ---- the levels

  module _ (d : ℕ) (few : d < height levels.pins) where
    abbrev stores : List ℕ
    stores = level_values (stored_values list) d

    count-in : 2 ^ d - 1 + count_of levels.pins d ≤ levels.pins
    count-in = omega (arith, level-inside levels.pins d (suc d) (le_refl (suc d)) few)

    stores-length : length stores ≡ count_of levels.pins d
    stores-length = level-length list d ∙ ap (λ (n : ℕ). count_of n d) list_length

    -- what a level is decoded to
    level-values : (vs : List ℕ) → decoded_at levels s d ≡ all vs → vs ≡ stores
    unfolding fetched_at
    level-values vs e =
        let f = decode-fetches (code_of levels d) (count_of levels.pins d) (part_of levels.ends s d) vs e in
        ext_get_or 0 vs stores (f.0 ∙ sym stores-length) (λ j h.
        let k : j < count_of levels.pins d = rw f.0 at h in
        let v = 2 ^ d + j in
        let lv = level-is d v (omega arith) (omega (arith, count_is levels.pins d)) in
        let p : v - 2 ^ d ≡ j = omega arith in
        let q : suc (2 ^ d - 1 + j) ≡ v = omega (arith, pow_pos d) in
        let own : fetched_at levels s v ≡ value (get_or vs j 0) = rw (lv, p) (f.1 j k) in
        let g : get_or vs j 0 ≡ stored list v = values_same (sym own ∙ listed-value v (omega (arith, pow_pos d)) (omega (arith, count-in, pow_pos d))) in
        let k' : j < count_of (length (stored_values list)) d = rw (length-stored list ∙ list_length) k in
        g ∙ sym (level-at (stored_values list) d j k' ∙ get_or-stored list (2 ^ d - 1 + j) (rw list_length (omega (arith, count-in))) ∙ ap (stored list) q))
      where
        values_same : {a b : ℕ} → value a ≡ value b → a ≡ b
        values_same e = cc

    chosen-values : level_chosen levels s d ≡ true → ((chosen stores).code ≡ code_of levels d) × (part (code_of levels d) stores ≡ part_of levels.ends s d)
    chosen-values e = go (decoded_at levels s d) refl e
      where
        go : (x : Decoded) → decoded_at levels s d ≡ x → chosen_by (code_of levels d) (part_of levels.ends s d) x ≡ true
            → ((chosen stores).code ≡ code_of levels d) × (part (code_of levels d) stores ≡ part_of levels.ends s d)
        go (all vs) p q = rw (← (level-values vs p)) (chosen-parts.told (code_of levels d) vs (part_of levels.ends s d) q)
        go undecoded p q = absurd (false≢true q)

pub listed-chosen : ChosenStored
listed-chosen levels s e whole d few = chosen-values levels s whole d few (chosen-each levels s (height levels.pins) e d few)
