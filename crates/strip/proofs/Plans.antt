-- The levels of an image: the code and the bytes of each, where they lie, and the strip that they make.
use mathlib.Core.Path.{◌≡◌, refl, sym, ap, ◌∙◌}
use mathlib.Core.List.{List, ◌++◌}
use Prim.Native.Nat.{ℕ, zero, suc, ◌+◌, ◌-◌, ◌*◌, ◌/◌, ◌^◌, ◌≤◌, ◌<◌, min}
use native.Mathlib.Nat.{zero-add, add-sub_cancel_left}
use native.Mathlib.Omega.{arith}
use lib.ListN.{length, get_or, length-append}
use Rattle.codes.specs.Lists.{at_front, replaced}
use Rattle.codes.specs.Codes.{kind_of, part, Within, Holds}
use Rattle.codes.specs.Choice.{chosen}
use Rattle.codes.proofs.Promises.{lengths, best-choice, list-laws}
use Rattle.tree.specs.declared.nodes.Levels.{Levels}
use Rattle.tree.specs.Shape.{height}
use Rattle.tree.specs.Levels.{level_values}
use Rattle.tree.proofs.Promises.{stored-levels}
use Rattle.strip.specs.Layout.{header, parts_start, end_after}
use Rattle.strip.specs.Image.{code_for, part_for, length_for, planned, entry_for, joined, strip_of}
use Rattle.strip.specs.Written.{entry_in}
use Rattle.strip.proofs.Layouts.{At, laid_end, laid-at, laid-pins}
use Rattle.strip.proofs.Pieces.{length-joined, joined_same, joined-room}

pub level-short : (values : List ℕ) (d : ℕ) → length (level_values values d) ≤ length values
level-short values d = omega (arith, stored-levels.half values d)

pub level-code : (values : List ℕ) (d : ℕ) → code_for values d ≡ (chosen (level_values values d)).code
unfolding code_for
level-code values d = refl

module _ (values : List ℕ) (w : Within 32 values) (d : ℕ) where
  abbrev vs : List ℕ
  vs = level_values values d

  pub values-within : Within 32 vs
  values-within = stored-levels.level_within 32 values d w

  pub level_holds : Holds (kind_of (code_for values d)) vs
  unfolding code_for
  level_holds = (best-choice vs values-within).holds

  -- the bytes that hold the chosen code's bits
  pub length-chosen : length_for values d ≡ ((chosen vs).size + 7) / 8
  unfolding part_for code_for
  length-chosen = rw (best-choice vs values-within).its_size (lengths.rounded (chosen vs).code vs)

  pub size_small : (chosen vs).size ≤ length vs * 32
  size_small = (best-choice vs values-within).at_most

-- ---- where the levels of an image lie

pub plan-pins : (values : List ℕ) (levels : Levels) → levels ≡ planned values → levels.pins ≡ length values
plan-pins values levels e = rw e (laid-pins (length values) (code_for values) (length_for values))

module _ (values : List ℕ) (few : length values < 2 ^ 16) where
  pub plan-at : (d : ℕ) → d < height (length values) → At (planned values) d (code_for values d) (end_after (parts_start (length values)) (length_for values) d) (length_for values d)
  plan-at = laid-at (length values) (code_for values) (length_for values) few

  -- so the entries that tell where they lie are those of the image
  plan-entry : (d : ℕ) → d < height (length values) → entry_in (planned values) d ≡ entry_for values d
  plan-entry d h =
      let k = plan-at d h in
      rw (k.code_is, k.starts, k.ends_at, add-sub_cancel_left (end_after (parts_start (length values)) (length_for values) d) (length_for values d))

-- ---- the strip of values

pub length-strip : (values : List ℕ) → length (strip_of values) ≡ parts_start (length values) + length (joined (part_for values) (height (length values)))
unfolding strip_of
length-strip values =
    let h = height (length values) in
    length-append (header (length values) ++ joined (entry_for values) h) (joined (part_for values) h)
    ∙ rw (length-append (header (length values)) (joined (entry_for values) h), length-joined (entry_for values) 5 (λ i. refl) h)

-- the parts end where the levels do
pub parts-end : (values : List ℕ) (d : ℕ) → end_after (parts_start (length values)) (length_for values) d ≡ parts_start (length values) + length (joined (part_for values) d)
unfolding end_after joined
parts-end values zero = omega arith
parts-end values (suc d) = rw (parts-end values d, length-append (joined (part_for values) d) (part_for values d)) (omega arith)

-- a part has at most 4 bytes for each value, so all have at most 4 for each pin
parts-small : (values : List ℕ) → Within 32 values → (d : ℕ) → length (joined (part_for values) d) ≤ 4 * min (length values) (2 ^ d - 1)
unfolding joined
parts-small values w zero = omega arith
parts-small values w (suc d) =
    rw (length-append (joined (part_for values) d) (part_for values d))
    (omega (arith, parts-small values w d, length-chosen values w d, size_small values w d, stored-levels.above values d))

pub strip-small : (values : List ℕ) → Within 32 values → length (strip_of values) ≤ parts_start (length values) + 4 * length values
strip-small values w = omega (arith, length-strip values, parts-small values w (height (length values)))

-- a level of the plan: its code, where its part starts, that there is room for it, and what is written for its values
pub record Spot (values : List ℕ) (levels : Levels) (d : ℕ) : Type 0 where
  pub code_is : get_or levels.codes d 0 ≡ code_for values d
  pub starts : get_or levels.ends d 0 ≡ parts_start (length values) + length (joined (part_for values) d)
  pub room : get_or levels.ends d 0 + length_for values d ≤ length (strip_of values)
  pub part-is : (vs : List ℕ) → vs ≡ level_values values d → part (get_or levels.codes d 0) vs ≡ part_for values d

pub plan-spot : (values : List ℕ) → length values < 2 ^ 16 → (levels : Levels) → levels ≡ planned values → (d : ℕ) → d < height (length values) → Spot values levels d
unfolding part_for
plan-spot values few levels e d h =
    let k = plan-at values few d h in
    let starts = k.starts ∙ parts-end values d in
    rw e record {
      code_is = k.code_is;
      starts = starts;
      room = omega (arith, starts, length-strip values, joined-room (part_for values) d (height (length values)) h);
      part-is = λ vs q. rw (k.code_is, q);
    }

module _ (values : List ℕ) (few : length values < 2 ^ 16) (levels : Levels) (e : levels ≡ planned values) where
  pins : levels.pins ≡ length values
  pins = plan-pins values levels e

  pub plan-end : (h : ℕ) → h ≡ height levels.pins → get_or levels.ends h 0 ≡ length (strip_of values)
  plan-end h q =
      rw (q, pins, e) (laid_end (length values) (code_for values) (length_for values) few (height (length values)) (omega arith))
      ∙ parts-end values (height (length values)) ∙ sym (length-strip values)

  -- header, entries and parts, written one after the other, are the strip
  pub strip-written : (out : List ℕ) → length (strip_of values) ≤ length out
      → replaced (replaced (replaced out 0 (header levels.pins)) 7 (joined (entry_in levels) (height levels.pins))) (parts_start levels.pins) (joined (part_for values) (height levels.pins))
      ≡ at_front (strip_of values) out
  unfolding strip_of
  strip-written out room =
      let n = length values in
      let h = height n in
      let entries = joined (entry_for values) h in
      let parts = joined (part_for values) h in
      let same : joined (entry_in levels) h ≡ entries = rw e (joined_same (entry_in (planned values)) (entry_for values) h (plan-entry values few)) in
      let five : length entries ≡ 5 * h = length-joined (entry_for values) 5 (λ i. refl) h in
      let long = length-strip values in
      rw (pins, same)
      (ap (λ (o : List ℕ). replaced o (parts_start n) parts) (list-laws.replaced_more out 0 7 (header n) entries refl (omega arith))
      ∙ list-laws.replaced_more out 0 (parts_start n) (header n ++ entries) parts (rw (length-append (header n) entries) (omega (arith, five))) (omega arith)
      ∙ rw (zero-add (length (header n ++ entries ++ parts))))
