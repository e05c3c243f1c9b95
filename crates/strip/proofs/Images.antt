-- The image of values in node order, read again: opening it finds the plan by which it was written. Of a list's image, the levels hold
-- what the list's tree stores.
use mathlib.Core.Path.{◌≡◌, refl, sym, ap, ◌∙◌}
use mathlib.Core.List.{List, [], ◌∷◌, ◌++◌, append_assoc}
use Prim.Native.Nat.{ℕ, zero, suc, ◌+◌, ◌*◌, ◌/◌, ◌%◌, ◌^◌, ◌≤◌, ◌<◌}
use native.Mathlib.Nat.{add-zero, add-sub_cancel_left}
use native.Mathlib.Omega.{arith}
use lib.ListN.{length, drop, get_or, length-append}
use lib.Seq.{get_or-drop, drop_at, take_at}
use Rattle.codes.specs.Codes.{kind_of, is_exact, Within}
use Rattle.codes.proofs.Promises.{exact-parts}
use Rattle.tree.specs.Shape.{height}
use Rattle.tree.specs.Stored.{stored_values}
use Rattle.tree.specs.Levels.{count_of, code_of, part_of, level_values, Stores}
use Rattle.tree.proofs.Promises.{stored-levels}
use Rattle.tree.specs.Outcomes.{Outcome, Test, gives, verdict, after}
use Rattle.strip.specs.Layout.{header, pins_of, code_at, length_at, parts_start, end_after}
use Rattle.strip.specs.Image.{Packable, code_for, part_for, length_for, planned, entry_for, joined, strip_of, image}
use Rattle.strip.specs.Opening.{header_tests, entries_tests, length_by_entries, length_test, level_tests, levels_in, opening}
use Rattle.strip.proofs.Pieces.{joined-split, length-joined}
use Rattle.strip.proofs.Layouts.{end_same, laid_same}
use Rattle.strip.proofs.Plans.{plan-pins, plan-at, length-strip, parts-end, level-short, level_holds, length-chosen, size_small}
use Rattle.strip.proofs.Openings.{header-passes, entry-passes, entries-step, length-agrees, opening-steps}
use Rattle.strip.proofs.OpenStrips.{Exact}

-- a number of four bytes, read back
four-back : (x : ℕ) → x < 2 ^ 32 → ((x / 2 ^ 16 / 2 ^ 8 % 2 ^ 8) * 2 ^ 8 + x / 2 ^ 16 % 2 ^ 8) * 2 ^ 16 + ((x / 2 ^ 8 % 2 ^ 8) * 2 ^ 8 + x % 2 ^ 8) ≡ x
four-back x h = omega arith

-- where every level is as long as its values need
entries-all : {A : Type 0} (s : List ℕ) (ts : List Test) (a : A) (k d : ℕ) → ((i : ℕ) → i < d + k → Exact s i) → verdict (entries_tests s k d ++ ts) a ≡ verdict ts a
unfolding entries_tests
entries-all s ts a zero d h = refl
entries-all s ts a (suc k) d h =
    entries-step s ts a k d ∙ rw (entry-passes (suc d) (count_of (pins_of s) d) (code_at s d) (length_at s d) (tt {0}) (h d (omega arith))) (entries-all s ts a k (suc d) (λ i l. h i (omega arith)))

module _ (values : List ℕ) (some : 1 ≤ length values) (few : length values < 2 ^ 16) (w : Within 32 values) where
  pins-back : pins_of (strip_of values) ≡ length values
  unfolding strip_of
  pins-back = omega arith

  -- from the entry of a level on
  from-entry : (d : ℕ) → d < height (length values) → (later : List ℕ) × (drop (7 + 5 * d) (strip_of values) ≡ entry_for values d ++ later)
  unfolding strip_of
  from-entry d l =
      let h = height (length values) in
      let parts = joined (part_for values) h in
      let r = joined-split (entry_for values) d h l in
      let before = joined (entry_for values) d in
      let len : length (header (length values) ++ before) ≡ 7 + 5 * d = rw (length-append (header (length values)) before, length-joined (entry_for values) 5 (λ i. refl) d) (omega arith) in (
        r.0 ++ parts,
        ap (λ (e : List ℕ). drop (7 + 5 * d) (header (length values) ++ e ++ parts)) r.1
            ∙ ap (λ (e : List ℕ). drop (7 + 5 * d) (e ++ parts)) (sym (append_assoc (header (length values)) before (entry_for values d ++ r.0)))
            ∙ ap (drop (7 + 5 * d)) (append_assoc (header (length values) ++ before) (entry_for values d ++ r.0) parts)
            ∙ drop_at (header (length values) ++ before) (entry_for values d ++ r.0 ++ parts) (7 + 5 * d) len
            ∙ append_assoc (entry_for values d) r.0 parts,
      )

  byte-back : (d k : ℕ) (l : d < height (length values)) → get_or (strip_of values) (7 + 5 * d + k) 0 ≡ get_or (entry_for values d ++ (from-entry d l).0) k 0
  byte-back d k l = sym (get_or-drop (7 + 5 * d) (strip_of values) k 0) ∙ ap (λ (x : List ℕ). get_or x k 0) (from-entry d l).1

  code-back : (d : ℕ) → d < height (length values) → code_at (strip_of values) d ≡ code_for values d
  code-back d l = rw (add-zero (7 + 5 * d)) at (byte-back d 0 l)

  small : (d : ℕ) → length_for values d < 2 ^ 32
  small d = omega (arith, length-chosen values w d, size_small values w d, level-short values d)

  length_back : (d : ℕ) → d < height (length values) → length_at (strip_of values) d ≡ length_for values d
  length_back d l =
      let a1 : 8 + 5 * d ≡ 7 + 5 * d + 1 = omega arith in
      let a2 : 8 + 5 * d + 1 ≡ 7 + 5 * d + 2 = omega arith in
      let a3 : 8 + 5 * d + 2 ≡ 7 + 5 * d + 3 = omega arith in
      let a4 : 8 + 5 * d + 2 + 1 ≡ 7 + 5 * d + 4 = omega arith in
      rw (a4, a3, a2, a1, byte-back d 1 l, byte-back d 2 l, byte-back d 3 l, byte-back d 4 l) (four-back (length_for values d) (small d))

  told_back : length_by_entries (strip_of values) ≡ length (strip_of values)
  told_back =
      rw pins-back (end_same (parts_start (length values)) (length_at (strip_of values)) (length_for values) (height (length values)) length_back)
      ∙ parts-end values (height (length values)) ∙ sym (length-strip values)

  levels-back : levels_in (strip_of values) ≡ planned values
  levels-back =
      rw pins-back (laid_same (length values) (code_at (strip_of values)) (code_for values) (length_at (strip_of values)) (length_for values) code-back length_back)

  header-back : verdict (header_tests (strip_of values)) (pins_of (strip_of values)) ≡ gives (pins_of (strip_of values))
  unfolding strip_of
  header-back =
      header-passes (strip_of values) (omega (arith, length-strip values)) refl refl (λ e. omega (arith, pins-back)) (rw pins-back (omega (arith, length-strip values)))

  exact-back : (d : ℕ) → d < height (pins_of (strip_of values)) → Exact (strip_of values) d
  unfolding part_for
  exact-back d l =
      let k = rw pins-back at l in
      rw (pins-back, code-back d k, length_back d k)
      (ap (λ (count : ℕ). is_exact (kind_of (code_for values d)) count (length_for values d)) (sym (stored-levels.level_count values d))
      ∙ exact-parts.written (code_for values d) (level_values values d) (level_holds values w d))

  pub strip-opens : opening (strip_of values) ≡ gives (planned values)
  strip-opens =
      let s = strip_of values in
      opening-steps s ∙ ap (λ (o : Outcome ℕ). after o (λ _. verdict (level_tests s) (levels_in s))) header-back
      ∙ entries-all s (length_test s ∷ []) (levels_in s) (height (pins_of s)) 0 (λ i l. exact-back i (omega arith))
      ∙ length-agrees s (levels_in s) told_back ∙ ap gives levels-back

  -- the part of a level, where the plan says
  pub part-back : (d : ℕ) → d < height (length values) → part_of (planned values).ends (strip_of values) d ≡ part_for values d
  unfolding strip_of
  part-back d l =
      let h = height (length values) in
      let k = plan-at values few d l in
      let front = header (length values) ++ joined (entry_for values) h in
      let before = joined (part_for values) d in
      let r = joined-split (part_for values) d h l in
      let at = end_after (parts_start (length values)) (length_for values) d in
      let len : length (front ++ before) ≡ at =
      rw (length-append front before, length-append (header (length values)) (joined (entry_for values) h), length-joined (entry_for values) 5 (λ i. refl) h, parts-end values d) in
      let split : front ++ joined (part_for values) h ≡ front ++ before ++ (part_for values d ++ r.0) = ap (λ (x : List ℕ). front ++ x) r.1 ∙ sym (append_assoc front before (part_for values d ++ r.0)) in
      rw (k.starts, k.ends_at, add-sub_cancel_left at (length_for values d), split, drop_at (front ++ before) (part_for values d ++ r.0) at len)
      (take_at (part_for values d) r.0 (length_for values d) refl)

-- ---- the image of a list

module _ (xs : List ℕ) (p : Packable xs) where
  count : length (stored_values xs) ≡ length xs
  count = stored-levels.count xs

  some-values : 1 ≤ length (stored_values xs)
  some-values = rw count p.some

  few-values : length (stored_values xs) < 2 ^ 16
  few-values = rw count (omega (arith, p.few))

  pub within : Within 32 (stored_values xs)
  within = stored-levels.within 32 xs p.times

  pub list-opens : opening (image xs) ≡ gives (planned (stored_values xs))
  list-opens = strip-opens (stored_values xs) some-values few-values within

  -- the code of a level, by the plan
  pub image_code : (d : ℕ) → d < height (length xs) → code_of (planned (stored_values xs)) d ≡ code_for (stored_values xs) d
  image_code d l = (plan-at (stored_values xs) few-values d (rw count l)).code_is

  -- its levels hold what the tree of the list stores
  pub image-stores : Stores (planned (stored_values xs)) (image xs) xs
  unfolding part_for
  image-stores = record {
    pins_are = plan-pins (stored_values xs) (planned (stored_values xs)) refl ∙ count;
    holds = λ d h. rw (image_code d h) (level_holds (stored_values xs) within d);
    parts_are = λ d h. rw (image_code d h) (part-back (stored_values xs) some-values few-values within d (rw count h));
  }
