-- What is known of the times that were listed, of what check answers for them, and of what unpack leaves.
use mathlib.Core.Path.{◌≡◌, refl, sym, ap, ◌∙◌}
use mathlib.Core.Bool.{Bool, true, false, not, false≢true}
use mathlib.Core.List.{List, [], ◌∷◌}
use Prim.Native.Nat.{ℕ, ◌-◌, ◌^◌, ◌≤◌, ◌<◌}
use native.Mathlib.Nat.{zero-add}
use native.Mathlib.Omega.{arith}
use lib.ListN.{length, take, replicate, length-append}
use lib.Pow.{pow_mono}
use lib.Seq.{take_at}
use borrow.Author.Tests.{not-false}
use Rattle.codes.proofs.Promises.{list-laws}
use Rattle.codes.specs.Lists.{same}
use Rattle.codes.specs.Codes.{Within}
use Rattle.tree.specs.declared.nodes.Levels.{Levels}
use Rattle.tree.specs.Levels.{Fits}
use Rattle.tree.specs.Lists.{ordered}
use Rattle.tree.specs.declared.listing.Stop.{Stop}
use Rattle.std.specs.Prelude.{Result}
use Rattle.tree.specs.Outcomes.{gives, refuses, after, Test, test, verdict}
use Rattle.tree.specs.Listing.{accesses, stop_all, end_of, Lists}
use Rattle.codes.specs.Lists.{filled_to}
use Rattle.tree.specs.Chosen.{all_chosen}
use Rattle.tree.proofs.Promises.{height-least, listing-finds, outcome-laws}
use Rattle.strip.specs.Lists.{first_lower}
use Rattle.strip.specs.Image.{image}
use Rattle.strip.specs.Opening.{opening}
use Rattle.strip.specs.Calls.{room_for, list_in, image_test, check_in, repeat_from}
use Rattle.strip.specs.Read.{unpack_in, gap_or, falls_test, image_in}
use Rattle.strip.proofs.OpenImages.{open-image, open-packable, image-chosen}
use Rattle.strip.proofs.Readings.{ending, repeat-lists, check-lists}
use Rattle.strip.proofs.Verdicts.{outcome-passed, verdict-passed}

-- the levels of an open strip have at most 65,535 pins
pub pins-few : (levels : Levels) (s : List ℕ) → Fits levels s → levels.pins < 2 ^ 16
pins-few levels s f = omega (arith, height-least.enough levels.pins, pow_mono f.height_fits)

-- ---- the times

-- the times that are listed stand at the front of the buffer that was lent
pub record Front (s : List ℕ) (levels : Levels) (n : ℕ) (now : List ℕ) : Type 0 where
  pub room : n ≤ length now
  pub count : n ≡ length (take n now)
  pub is : take n now ≡ list_in s levels

pub listed-front : (s : List ℕ) (levels : Levels) {r : Result (Unit {0}) Stop} {now : List ℕ} → Lists (accesses levels s) levels.pins 0 r → now ≡ filled_to levels.pins (list_in s levels)
    → Front s levels (end_of r levels.pins) now
unfolding list_in
listed-front s levels {r} {now} w is =
    let n = end_of r levels.pins in
    let rest = replicate {A = ℕ} (levels.pins - length (list_in s levels)) 0 in
    let l : length (list_in s levels) ≡ n = sym (rw (zero-add levels.pins, zero-add (length (list_in s levels))) at w.ends) in
    let front : take n now ≡ list_in s levels = rw is (take_at (list_in s levels) rest n l) in
    record {
      room = rw is (omega (arith, l, length-append (list_in s levels) rest));
      count = rw front (sym l);
      is = front;
    }

-- ---- what check answers
module _ (s : List ℕ) (levels : Levels) (o : opening s ≡ gives levels) (bytes : Within 8 s) where
  -- the levels tell 12
  chosen_is : stop_all levels s ≡ gives tt → ordered (list_in s levels) ≡ true → all_chosen levels s ≡ same (image (list_in s levels)) s
  chosen_is all in_order = go (all_chosen levels s) (same (image (list_in s levels)) s) refl refl
    where
      go : (a b : Bool) → all_chosen levels s ≡ a → same (image (list_in s levels)) s ≡ b → a ≡ b
      go true b p q = sym (list-laws.same_itself s) ∙ rw (open-image s levels o bytes all p) at q
      go false true p q =
          let is : image (list_in s levels) ≡ s = list-laws.same_lists (image (list_in s levels)) s q in
          absurd (false≢true (sym p ∙ image-chosen s levels (list_in s levels) (open-packable s levels o all in_order is) o is))
      go false false p q = refl

  -- check, where every position has a time
  pub check-listed : gives tt ≡ stop_all levels s → after (falls_test (list_in s levels)) (λ _. image_in s levels) ≡ check_in s levels
  unfolding verdict test
  check-listed all = go (ordered (list_in s levels)) refl ∙ sym (check-lists s levels)
    where
      go : (b : Bool) → ordered (list_in s levels) ≡ b → let falls = test (not b) 11 (first_lower (list_in s levels)) in
          after falls (λ _. image_in s levels) ≡ verdict (falls ∷ stop_all levels s ∷ image_test s levels ∷ []) levels.pins
      go false p = refl
      go true p = rw (← all, chosen_is (sym all) p)

-- check, where one has none
pub check-stopped : (s : List ℕ) (levels : Levels) {r c : ℕ} → refuses r c ≡ stop_all levels s → after (falls_test (list_in s levels)) (λ _. refuses r c) ≡ check_in s levels
unfolding verdict
check-stopped s levels e = sym (check-lists s levels ∙ ap (λ (z : Test). verdict (falls_test (list_in s levels) ∷ z ∷ image_test s levels ∷ []) levels.pins) (sym e))

-- repeat
pub repeat-listed : (s : List ℕ) (levels : Levels) (r : ℕ) (stop : Test) → stop ≡ stop_all levels s → gap_or r (list_in s levels) (ending stop) ≡ repeat_from (accesses levels s) r levels.pins 0
unfolding list_in
repeat-listed s levels r stop e = ap (λ (z : Test). gap_or r (list_in s levels) (ending z)) e ∙ sym (repeat-lists (accesses levels s) r levels.pins)

-- ---- check's answer

module _ (s : List ℕ) (levels : Levels) where
  -- what is known of a strip that check accepts
  pub record Accepts (n : ℕ) : Type 0 where
    pub all : stop_all levels s ≡ gives tt
    pub pins : n ≡ levels.pins
    pub in_order : ordered (list_in s levels) ≡ true
    pub image-is : same (image (list_in s levels)) s ≡ true

  pub accepts : (n : ℕ) → gives n ≡ check_in s levels → Accepts n
  accepts n e =
      let a = verdict-passed (not (ordered (list_in s levels))) _ _ _ _ n (sym (e ∙ check-lists s levels)) in
      let b = outcome-passed (stop_all levels s) _ _ n a.1 in
      let c = verdict-passed (not (same (image (list_in s levels)) s)) _ _ _ _ n b.1 in
      record { all = b.0; pins = sym (outcome-laws.given _ _ n c.1); in_order = not-false _ a.0; image-is = not-false _ c.0 }

  pub accepted-count : (n : ℕ) → gives n ≡ check_in s levels → length (list_in s levels) ≡ n
  unfolding list_in
  accepted-count n e = let a = accepts n e in listing-finds.count _ levels.pins a.all ∙ sym a.pins

  -- unpack's answer, where check accepts
  pub unpack-listed : (room n : ℕ) → gives n ≡ check_in s levels → room_for room (length (list_in s levels)) ≡ unpack_in s room levels
  unpack-listed room n e = rw (← e, accepted-count n e)

  -- then the list fills the buffer that was lent
  pub accepted-whole : (n : ℕ) → gives n ≡ check_in s levels → filled_to levels.pins (list_in s levels) ≡ list_in s levels
  accepted-whole n e = list-laws.filled_whole levels.pins (list_in s levels) (accepted-count n e ∙ (accepts n e).pins)
