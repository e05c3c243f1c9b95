-- Levels that are what pack writes, one after the other.
use Rattle.std.proofs.Common.{◌≡◌, refl, sym, ap, ◌∙◌, Bool, true, false, ◌&&◌, List, ℕ, zero, suc, ◌+◌, ◌<◌, add-one, arith, length}
use mathlib.Core.Bool.{and-false, and-eq-true_iff, false≢true}
use native.Mathlib.Decide.{ℕ_discrete}
use Rattle.codes.specs.Decode.{Decoded, all, undecoded, is_decoded}
use Rattle.codes.proofs.Promises.{chosen-parts}
use Rattle.tree.specs.declared.nodes.Levels.{Levels}
use Rattle.tree.specs.Shape.{height}
use Rattle.tree.specs.Stored.{stored_values}
use Rattle.tree.specs.Levels.{code_of, part_of, level_values}
use Rattle.tree.specs.DecodedLevels.{decoded_at, joined, decoded_to, decoded_levels}
use Rattle.tree.specs.Chosen.{chosen_by, level_chosen, chosen_to, all_chosen}
use Rattle.tree.specs.Promises.{StoredChosen}
use Rattle.tree.proofs.LevelValues.{decoded-back}

module _ (levels : Levels) (s : List ℕ) where
  pub chosen-next : (d : ℕ) → chosen_to levels s d ≡ true → level_chosen levels s d ≡ true → chosen_to levels s (d + 1) ≡ true
  unfolding chosen_to
  chosen-next d e f = rw (add-one d, e) f

  -- each of the first k levels
  pub chosen-each : (k : ℕ) → chosen_to levels s k ≡ true → (d : ℕ) → d < k → level_chosen levels s d ≡ true
  unfolding chosen_to
  chosen-each zero e d h = absurd (omega arith)
  chosen-each (suc k) e d h =
      let both = (and-eq-true_iff (chosen_to levels s k) (level_chosen levels s k)).0 e in
      elim (ℕ_discrete d k) [ yes z ↦ rw z both.1 | no z ↦ chosen-each k both.0 d (omega arith) ]

  chosen-all : (k : ℕ) → ((d : ℕ) → d < k → level_chosen levels s d ≡ true) → chosen_to levels s k ≡ true
  unfolding chosen_to
  chosen-all zero each = refl
  chosen-all (suc k) each = rw (chosen-all k (λ d h. each d (omega arith)), each k (omega arith))

  -- where a level is another, not all are chosen
  pub chosen-not : (d m : ℕ) → d < m → level_chosen levels s d ≡ false → chosen_to levels s m ≡ false
  chosen-not d m h e = go (chosen_to levels s m) refl
    where
      go : (b : Bool) → chosen_to levels s m ≡ b → b ≡ false
      go false p = refl
      go true p = absurd (false≢true (sym e ∙ chosen-each m p d h))

  -- where a level is not decoded, it is another
  undecoded-to : (k : ℕ) → is_decoded (decoded_to levels s k) ≡ false → chosen_to levels s k ≡ false
  unfolding decoded_to chosen_to
  undecoded-to zero e = absurd (false≢true (sym e))
  undecoded-to (suc k) e = go (decoded_to levels s k) (decoded_at levels s k) (undecoded-to k) e
    where
      go : (x y : Decoded) → (is_decoded x ≡ false → chosen_to levels s k ≡ false) → is_decoded (joined x y) ≡ false
          → (chosen_to levels s k && chosen_by (code_of levels k) (part_of levels.ends s k) y) ≡ false
      go (all us) (all vs) h e = absurd (false≢true (sym e))
      go (all us) undecoded h e = and-false (chosen_to levels s k)
      go undecoded y h e = ap (λ (b : Bool). b && chosen_by (code_of levels k) (part_of levels.ends s k) y) (h refl)

  pub undecoded-other : is_decoded (decoded_levels levels s) ≡ false → all_chosen levels s ≡ false
  undecoded-other e = undecoded-to (height levels.pins) e

-- levels that hold what a list's tree stores, in the chosen codes
pub codes-chosen : StoredChosen
codes-chosen levels s xs w codes = chosen-all levels s (height levels.pins) (λ d h.
    let few : d < height (length xs) = rw w.pins_are at h in
    ap (chosen_by (code_of levels d) (part_of levels.ends s d)) (decoded-back w d few)
    ∙ rw (w.parts_are d few, codes d few) (chosen-parts.back (level_values (stored_values xs) d)))
