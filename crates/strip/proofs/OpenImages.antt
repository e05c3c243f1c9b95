-- The bytes of an open strip, put together again from its pin count, its levels' codes and their parts: where these are the image's, so
-- are the bytes. The other way round, an image has the levels that pack writes.
use mathlib.Core.Path.{◌≡◌, refl, sym, ap, ◌∙◌}
use mathlib.Core.Bool.{true, ◌&&◌, and-eq-true_iff}
use mathlib.Core.List.{List, [], ◌∷◌, ◌++◌, append_assoc}
use Prim.Native.Nat.{ℕ, zero, suc, ◌+◌, ◌-◌, ◌*◌, ◌/◌, ◌%◌, ◌^◌, ◌≤◌, ◌<◌}
use native.Mathlib.Nat.{add-zero, add-sub_cancel_left}
use native.Mathlib.Omega.{arith}
use lib.Dec.{eqb}
use lib.ListN.{length, take, drop, get_or, length-drop, take-append-drop}
use lib.Seq.{take-add, take_all, drop-drop, get_or-drop, length-take-le}
use borrow.Author.Tests.{eqb-true, eqb-false}
use Rattle.codes.specs.Codes.{part, Within}
use Rattle.codes.specs.Choice.{chosen as chosen_for}
use Rattle.tree.specs.declared.nodes.Levels.{Levels}
use Rattle.tree.specs.Shape.{height}
use Rattle.tree.specs.Lists.{ordered}
use Rattle.tree.specs.Stored.{stored_values}
use Rattle.tree.specs.Levels.{code_of, part_of, level_values}
use Rattle.tree.specs.Listing.{times_all, stop_all}
use Rattle.tree.specs.Chosen.{all_chosen}
use Rattle.tree.proofs.Promises.{stored-levels, listing-finds, chosen-stored, stored-chosen, outcome-laws}
use Rattle.tree.specs.Outcomes.{gives}
use Rattle.strip.specs.Layout.{max_pins, version, two_at, four_at, header, pins_of, entry, code_at, length_at, parts_start, end_after, laid_out}
use Rattle.strip.specs.Image.{Packable, code_for, part_for, length_for, planned, entry_for, joined, strip_of, image}
use Rattle.strip.specs.Calls.{list_in}
use Rattle.strip.specs.Opening.{has_mark, levels_in, opening}
use Rattle.strip.proofs.Layouts.{laid-at, laid-pins, end-next, end-start, end-mono}
use Rattle.strip.proofs.Plans.{level-code}
use Rattle.strip.proofs.Images.{list-opens, image_code, image-stores}
use Rattle.strip.proofs.OpenStrips.{Open, open_told}
use Rattle.strip.proofs.Verdicts.{verdict-passed}

-- ---- numbers of several bytes, written again

bytes-again : (a b : ℕ) → a < 2 ^ 8 → b < 2 ^ 8 → ((a * 2 ^ 8 + b) / 2 ^ 8 % 2 ^ 8 ≡ a) × ((a * 2 ^ 8 + b) % 2 ^ 8 ≡ b)
bytes-again a b h k = (omega arith, omega arith)

header-again : (s : List ℕ) → Within 8 s → 7 ≤ length s → has_mark s ≡ true → two_at s 3 ≡ version → take 7 s ≡ header (pins_of s)
header-again [] w h m v = absurd (omega arith)
header-again (a ∷ []) w h m v = absurd (omega arith)
header-again (a ∷ b ∷ []) w h m v = absurd (omega arith)
header-again (a ∷ b ∷ c ∷ []) w h m v = absurd (omega arith)
header-again (a ∷ b ∷ c ∷ d ∷ []) w h m v = absurd (omega arith)
header-again (a ∷ b ∷ c ∷ d ∷ e ∷ []) w h m v = absurd (omega arith)
header-again (a ∷ b ∷ c ∷ d ∷ e ∷ f ∷ []) w h m v = absurd (omega arith)
header-again (a ∷ b ∷ c ∷ d ∷ e ∷ f ∷ g ∷ s) w h m v =
    let m₁ = (and-eq-true_iff (eqb a 0x50 && eqb b 0x49) (eqb c 0x4e)).0 m in
    let m₂ = (and-eq-true_iff (eqb a 0x50) (eqb b 0x49)).0 m₁.0 in
    let n = bytes-again f g (w 5) (w 6) in
    let d0 : d ≡ 0 = omega (arith, w 4) in
    let e1 : e ≡ 1 = omega (arith, w 4) in
    rw (n.0, n.1, eqb-true a 0x50 m₂.0, eqb-true b 0x49 m₂.1, eqb-true c 0x4e m₁.1, d0, e1)

entry-again : (t : List ℕ) → Within 8 t → 5 ≤ length t → take 5 t ≡ entry (get_or t 0 0) (four_at t 1)
entry-again [] w h = absurd (omega arith)
entry-again (a ∷ []) w h = absurd (omega arith)
entry-again (a ∷ b ∷ []) w h = absurd (omega arith)
entry-again (a ∷ b ∷ c ∷ []) w h = absurd (omega arith)
entry-again (a ∷ b ∷ c ∷ d ∷ []) w h = absurd (omega arith)
entry-again (a ∷ b ∷ c ∷ d ∷ e ∷ t) w h =
    let n : ((b * 2 ^ 8 + c) * 2 ^ 16 + (d * 2 ^ 8 + e)) / 2 ^ 16 ≡ b * 2 ^ 8 + c = omega (arith, w 3, w 4) in
    let p = bytes-again b c (w 1) (w 2) in
    let q₁ : ((b * 2 ^ 8 + c) * 2 ^ 16 + (d * 2 ^ 8 + e)) / 2 ^ 8 % 2 ^ 8 ≡ d = omega (arith, w 3, w 4) in
    let q₂ : ((b * 2 ^ 8 + c) * 2 ^ 16 + (d * 2 ^ 8 + e)) % 2 ^ 8 ≡ e = omega (arith, w 4) in
    rw (n, p.0, p.1, q₁, q₂)

-- ---- the pieces of an open strip

module _ (s : List ℕ) (levels : Levels) (o : Open s levels) (bytes : Within 8 s) (values : List ℕ) (pins : length values ≡ pins_of s) where
  abbrev n : ℕ
  n = pins_of s

  few : n < 2 ^ 16
  few = omega (arith, bytes 5, bytes 6)

  abbrev start : ℕ → ℕ
  start d = end_after (parts_start n) (length_at s) d

  -- the entry of a level
  entry_at : (d : ℕ) → d < height n → take 5 (drop (7 + 5 * d) s) ≡ entry (code_at s d) (length_at s d)
  entry_at d h =
      let e₁ : 7 + 5 * d + 1 ≡ 8 + 5 * d = omega arith in
      let e₂ : 7 + 5 * d + (1 + 1) ≡ 8 + 5 * d + 1 = omega arith in
      let e₃ : 7 + 5 * d + (1 + 2) ≡ 8 + 5 * d + 2 = omega arith in
      let e₄ : 7 + 5 * d + (1 + 2 + 1) ≡ 8 + 5 * d + 2 + 1 = omega arith in
      rw (get_or-drop (7 + 5 * d) s 0 0, get_or-drop (7 + 5 * d) s 1 0, get_or-drop (7 + 5 * d) s (1 + 1) 0, get_or-drop (7 + 5 * d) s (1 + 2) 0, get_or-drop (7 + 5 * d) s (1 + 2 + 1) 0, add-zero (7 + 5 * d), e₁, e₂, e₃, e₄) at
      (entry-again (drop (7 + 5 * d) s) (λ j. rw get_or-drop (bytes (7 + 5 * d + j))) (rw length-drop (omega (arith, o.long))))

  module _ (codes-are : (d : ℕ) → d < height n → code_for values d ≡ code_at s d) (parts_are : (d : ℕ) → d < height n → part_for values d ≡ part_of levels.ends s d) where
    -- a part has the length that its entry tells
    part_in : (d : ℕ) → d < height n → (part_for values d ≡ take (length_at s d) (drop (start d) s)) × (start d + length_at s d ≤ length s)
    part_in d h =
        let k = laid-at n (code_at s) (length_at s) few d h in (
          parts_are d h ∙ rw (← o.levels-are, k.starts, k.ends_at, add-sub_cancel_left (start d) (length_at s d)),
          omega (arith, end-next (parts_start n) (length_at s) d, end-mono (parts_start n) (length_at s) (suc d) (height n) h, o.whole),
        )

    length-is : (d : ℕ) → d < height n → length_for values d ≡ length_at s d
    length-is d h =
        let p = part_in d h in
        ap length p.0 ∙ length-take-le (length_at s d) (drop (start d) s) (rw length-drop (omega (arith, p.1)))

    entries-are : (d : ℕ) → d ≤ height n → joined (entry_for values) d ≡ take (5 * d) (drop 7 s)
    unfolding joined
    entries-are zero h = refl
    entries-are (suc d) h =
        let e : 5 * suc d ≡ 5 * d + 5 = omega arith in
        rw (e, take-add (5 * d) 5 (drop 7 s), drop-drop (5 * d) 7 s, entries-are d (omega arith), codes-are d h, length-is d h, entry_at d h)

    parts-joined : (d : ℕ) → d ≤ height n → joined (part_for values) d ≡ take (start d - parts_start n) (drop (parts_start n) s)
    unfolding joined
    parts-joined zero h =
        let e : start 0 - parts_start n ≡ 0 = omega (arith, end-start (parts_start n) (length_at s)) in
        rw e
    parts-joined (suc d) h =
        let low = end-mono (parts_start n) (length_at s) 0 d (omega arith) in
        let first = end-start (parts_start n) (length_at s) in
        let e : start (suc d) - parts_start n ≡ start d - parts_start n + length_at s d = omega (arith, end-next (parts_start n) (length_at s) d) in
        let f : parts_start n + (start d - parts_start n) ≡ start d = omega arith in
        rw (e, take-add (start d - parts_start n) (length_at s d) (drop (parts_start n) s), drop-drop (start d - parts_start n) (parts_start n) s, f, parts-joined d (omega arith), (part_in d h).0)

    -- so the strip of the values is these bytes
    pub strip-again : strip_of values ≡ s
    unfolding strip_of
    strip-again =
        let rest : take (start (height n) - parts_start n) (drop (parts_start n) s) ≡ drop (parts_start n) s =
        take_all (start (height n) - parts_start n) (drop (parts_start n) s) (rw length-drop (omega (arith, o.whole))) in
        let front = header-again s bytes (omega (arith, o.long)) o.marked o.versioned in
        rw (pins, entries-are (height n) (omega arith), parts-joined (height n) (omega arith), rest)
        (ap (λ (f : List ℕ). f ++ take (5 * height n) (drop 7 s) ++ drop (parts_start n) s) (sym front)
        ∙ append_assoc (take 7 s) (take (5 * height n) (drop 7 s)) (drop (parts_start n) s)
        ∙ rw (← (drop-drop (5 * height n) 7 s), take-append-drop (5 * height n) (drop 7 s), take-append-drop 7 s))

-- where the levels are what pack writes for the values that they are decoded to
pub open-image : (s : List ℕ) (levels : Levels) → opening s ≡ gives levels → Within 8 s → stop_all levels s ≡ gives tt → all_chosen levels s ≡ true
    → image (list_in s levels) ≡ s
unfolding list_in part_for code_for
open-image s levels e bytes all chosen =
    let o = open_told s levels e in
    let pins : levels.pins ≡ pins_of s = rw (← o.levels-are) (laid-pins (pins_of s) (code_at s) (length_at s)) in
    strip-again s levels o bytes (stored_values list) (stored-levels.count list ∙ count ∙ pins)
    (λ d h. (level d (rw pins h)).0 ∙ code-at o d h) (λ d h. ap (λ (c : ℕ). part c (level_values (stored_values list) d)) (level d (rw pins h)).0 ∙ (level d (rw pins h)).1)
  where
    list : List ℕ
    list = times_all levels s

    count : length list ≡ levels.pins
    count = listing-finds.count _ levels.pins all

    level : (d : ℕ) → d < height levels.pins → let vs = level_values (stored_values list) d in
        ((chosen_for vs).code ≡ code_of levels d) × (part (code_of levels d) vs ≡ part_of levels.ends s d)
    level d h = chosen-stored levels s chosen all d h

    code-at : Open s levels → (d : ℕ) → d < height (pins_of s) → code_of levels d ≡ code_at s d
    code-at o d h = rw (← o.levels-are) (laid-at (pins_of s) (code_at s) (length_at s) (omega (arith, bytes 5, bytes 6)) d h).code_is

-- the other way round: where the bytes are a list's image, the levels are what pack writes
pub image-chosen : (s : List ℕ) (levels : Levels) (xs : List ℕ) → Packable xs → opening s ≡ gives levels → image xs ≡ s → all_chosen levels s ≡ true
image-chosen s levels xs p e is =
    let plan : planned (stored_values xs) ≡ levels = outcome-laws.same (sym (list-opens xs p) ∙ rw is e) in
    rw (← plan, ← is) (stored-chosen (planned (stored_values xs)) (image xs) xs (image-stores xs p) codes)
  where
    codes : (d : ℕ) → d < height (length xs) → code_of (planned (stored_values xs)) d ≡ (chosen_for (level_values (stored_values xs) d)).code
    codes d h = image_code xs p d h ∙ level-code (stored_values xs) d

-- ---- the list that is read from an open strip

module _ (s : List ℕ) (levels : Levels) (e : opening s ≡ gives levels) (all : stop_all levels s ≡ gives tt) (in_order : ordered (list_in s levels) ≡ true)
    (is : image (list_in s levels) ≡ s) where
  abbrev xs : List ℕ
  xs = list_in s levels

  -- as many pins as the header tells
  count : length xs ≡ pins_of s
  unfolding opening list_in laid_out
  count =
      listing-finds.count _ levels.pins all
      ∙ ap (λ (l : Levels). l.pins) (sym (outcome-laws.given _ (levels_in s) levels e))

  has-pins : (pins_of s ≡ 0 → ⊥)
  unfolding opening
  has-pins =
      let a = verdict-passed _ _ _ _ _ _ e in
      let b = verdict-passed _ _ _ _ _ _ a.1 in
      let c = verdict-passed _ _ _ _ _ _ b.1 in
      let d = verdict-passed (eqb (pins_of s) 0) _ _ _ _ _ c.1 in
      eqb-false (pins_of s) 0 d.0

  pins-few : length xs ≤ max_pins
  unfolding strip_of
  pins-few =
      let h : pins_of (image xs) ≡ length (stored_values xs) / 256 % 256 * 256 + length (stored_values xs) % 256 = refl in
      omega (arith, h, ap pins_of is, count, stored-levels.count xs)

  pub open-packable : Packable xs
  unfolding list_in
  open-packable = record {
    some = omega (arith, count, has-pins);
    few = pins-few;
    times = listing-finds.within levels s levels.pins;
    in_order = rw in_order tt;
  }
