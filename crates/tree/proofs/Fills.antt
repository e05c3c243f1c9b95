-- What filling the buffer node by node leaves in it.
use Rattle.std.proofs.Common.{◌≡◌, refl, sym, ap, ◌∙◌, inl, inr, Bool, true, false, List, ◌++◌, ℕ, suc, ◌+◌, ◌-◌, ◌*◌, ◌≤◌, ◌<◌, arith, length, get_or}
use Rattle.std.proofs.Common.{drop, set, length-set, length-append, length-drop, ext_get_or, get_or-append-add, get_or-drop, get_or-set_same}
use Rattle.std.proofs.Common.{get_or-set_other}
use native.Mathlib.Decide.{dec_lt, ℕ_discrete}
use lib.ListN.{get_or-append}
use Rattle.tree.specs.declared.shape.Stretch.{Stretch}
use Rattle.tree.specs.Shape.{root_place, child_of, side_of, stretch}
use Rattle.tree.specs.Stored.{time_of, time_above, stored, stored_values}
use Rattle.tree.specs.Filled.{Under, here, below, Correct, Filled}
use Rattle.tree.proofs.Heights.{place-small}
use Rattle.tree.proofs.Stretches.{node-of-pins, past-nodes, is-child, few-place, rank_is}
use Rattle.tree.proofs.Walks.{child-bounds, parent_of}
use Rattle.tree.proofs.Contents.{above-child}
use Rattle.tree.proofs.LevelValues.{length-stored, get_or-stored}
use Rattle.tree.proofs.Ranks.{under-root, under-out}

module _ (xs : List ℕ) where
  correct-both : (i a b c : ℕ) → Correct xs i a b → Correct xs i b c → Correct xs i a c
  correct-both i a b c f (inl e) = elim f [ inl d ↦ inl (e ∙ d) | inr z ↦ inr (z.0, e ∙ z.1) ]
  correct-both i a b c f (inr z) = inr z

  -- once an entry has its stored value, it keeps it
  correct-stays : (i a b : ℕ) → Correct xs i a b → a ≡ stored xs (suc i) → b ≡ stored xs (suc i)
  correct-stays i a b (inl d) e = d ∙ e
  correct-stays i a b (inr z) e = z.1

  filled_none : (v : ℕ) (before : List ℕ) → length xs < v → Filled xs v before before
  filled_none v before h = record {
    kept = refl;
    done = λ i u k. absurd (omega (arith, under-out (length xs) u h));
    others = λ i. inl refl;
  }

  -- node v's own entry, then those of its left and of its right subtree
  pub filled-node : (v : ℕ) (before now left right : List ℕ) → 1 ≤ v → v ≤ length xs → v ≤ length before → now ≡ set before (v - 1) (stored xs v)
      → Filled xs (2 * v) now left → Filled xs (2 * v + 1) left right → Filled xs v before right
  unfolding child_of
  filled-node v before now left right one h room w l r = record {
    kept = r.kept ∙ l.kept ∙ ap length w ∙ length-set before (v - 1) (stored xs v);
    done = done;
    others = λ i. correct-both i _ _ _ (own i) (later i);
  }
    where
      own : (i : ℕ) → Correct xs i (get_or before i 0) (get_or now i 0)
      own i = elim (ℕ_discrete i (v - 1)) [
        | yes e ↦
            let k : suc i ≡ v = omega arith in
            inr (omega arith, rw (w, e) (get_or-set_same before (v - 1) (stored xs v) 0 (omega arith)) ∙ ap (stored xs) (sym k))
        | no e ↦ inl (ap (λ (l : List ℕ). get_or l i 0) w ∙ get_or-set_other before (v - 1) i (stored xs v) 0 e)
      ]

      later : (i : ℕ) → Correct xs i (get_or now i 0) (get_or right i 0)
      later i = correct-both i _ _ _ (l.others i) (r.others i)

      done : (i : ℕ) → Under v (suc i) → i < length xs → get_or right i 0 ≡ stored xs (suc i)
      done i (here e) k =
          let j : i ≡ v - 1 = omega arith in
          correct-stays i _ _ (later i) (rw (w, j) (get_or-set_same before (v - 1) (stored xs v) 0 (omega arith)) ∙ ap (stored xs) e)
      done i (below false u) k = correct-stays i _ _ (r.others i) (l.done i u k)
      done i (below true u) k = r.done i u k

  -- from the root on: the list's stored values, and what stood after them
  pub filled-all : (before after : List ℕ) → length xs ≤ length before → Filled xs 1 before after → after ≡ stored_values xs ++ drop (length xs) before
  filled-all before after room f = ext_get_or 0 after (stored_values xs ++ drop (length xs) before) same_length (λ i h. entry i (dec_lt i (length xs)))
    where
      own : length (stored_values xs) ≡ length xs
      own = length-stored xs

      same_length : length after ≡ length (stored_values xs ++ drop (length xs) before)
      same_length = rw (length-append, own, length-drop) (omega (arith, f.kept))

      later : (i : ℕ) → length xs ≤ i → get_or before i 0 ≡ get_or (stored_values xs ++ drop (length xs) before) i 0
      later i h =
          let k : length (stored_values xs) + (i - length xs) ≡ i = rw own (omega arith) in
          let j : length xs + (i - length xs) ≡ i = omega arith in
          sym (ap (λ (n : ℕ). get_or (stored_values xs ++ drop (length xs) before) n 0) (sym k)
          ∙ get_or-append-add (stored_values xs) (drop (length xs) before) (i - length xs) 0 ∙ get_or-drop (length xs) before (i - length xs) 0 ∙ rw j)

      entry : (i : ℕ) → Dec (i < length xs) → get_or after i 0 ≡ get_or (stored_values xs ++ drop (length xs) before) i 0
      entry i (yes h) =
          f.done i (under-root (suc i) (omega arith)) h
          ∙ sym (get_or-append (stored_values xs) (drop (length xs) before) 0 i (rw own h) ∙ get_or-stored xs i h)
      entry i (no h) = elim (f.others i) [
        | inl e ↦ e ∙ later i (omega arith)
        | inr z ↦ absurd (h z.0)
      ]

-- ---- one node

module _ (xs : List ℕ) {v : ℕ} {s : Stretch} (one : 1 ≤ v) (e : stretch (length xs) v ≡ s) where
  pub filled-past : s.pins ≡ 0 → (before : List ℕ) → Filled xs v before before
  filled-past z before = filled_none xs v before (past-nodes (length xs) v one (rw e z))

  pub fill-node : 1 ≤ s.pins → v ≤ length xs
  fill-node h = node-of-pins (length xs) v (rw e h)

  above-side : (right : Bool) → time_above xs (child_of right v) ≡ time_of xs v
  above-side right = above-child xs (child_of right v) (omega (arith, child-bounds right v)) ∙ rw (parent_of right v)

  pub fill-time : get_or xs (s.start + root_place s.pins - 1) 0 ≡ time_of xs v
  unfolding time_of
  fill-time = rw (rank_is (length xs) v e)

  -- a node with one pin has no children
  pub filled-leaf : s.pins ≡ 1 → {before now : List ℕ} → length xs ≤ length before → now ≡ set before (v - 1) (stored xs v) → Filled xs v before now
  unfolding child_of
  filled-leaf p {before} {now} room w =
      let k = fill-node (omega arith) in
      let last = past-nodes (length xs) (2 * v) (omega arith) (rw (is-child false (length xs) one e, p) (omega (arith, place-small 1 (omega arith)))) in
      filled-node xs v before now now now one k (omega arith) w (filled_none xs (2 * v) now last) (filled_none xs (2 * v + 1) now (omega arith))

  -- where the time stands of a node with one pin, and of one with two or three
  pub one_time : s.pins ≡ 1 → get_or xs s.start 0 ≡ time_of xs v
  one_time p =
      let place = place-small 1 (omega arith) in
      let k : s.start + root_place s.pins - 1 ≡ s.start = rw p (omega arith) in
      rw k at fill-time

  pub few-time : 2 ≤ s.pins → s.pins ≤ 3 → get_or xs (s.start + 1) 0 ≡ time_of xs v
  few-time two three =
      let place = few-place s.pins two three in
      let k : s.start + root_place s.pins - 1 ≡ s.start + 1 = omega arith in
      rw k at fill-time

  -- its children, with their times above
  module _ {time : ℕ} (own : time ≡ time_of xs v) where
    pub above-left : time_above xs (2 * v) ≡ time
    unfolding child_of
    above-left = above-side false ∙ sym own

    pub above-right : time_above xs (2 * v + 1) ≡ time
    unfolding child_of
    above-right = above-side true ∙ sym own

  pub left-is : stretch (length xs) (2 * v) ≡ side_of false s
  unfolding child_of
  left-is = is-child false (length xs) one e

  pub right-is : stretch (length xs) (2 * v + 1) ≡ side_of true s
  unfolding child_of
  right-is = is-child true (length xs) one e

  -- with two or three pins
  module _ (two : 2 ≤ s.pins) (three : s.pins ≤ 3) where
    pub few-left : stretch (length xs) (2 * v) ≡ record { start = s.start; pins = 1 }
    few-left = left-is ∙ rw (few-place s.pins two three)

    pub few-right : stretch (length xs) (2 * v + 1) ≡ record { start = s.start + 2; pins = s.pins - 2 }
    few-right = right-is ∙ rw (few-place s.pins two three)
