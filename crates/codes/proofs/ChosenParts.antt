-- The test whether bytes are what pack writes, by its parts.
use Rattle.std.proofs.Common.{◌≡◌, ℕ, false, eqb, List, length, sym, refl, ◌∙◌, eq-eqb, ne_eqb, eqb-true}
use mathlib.Core.Bool.{and-false, and-eq-true_iff}
use Rattle.codes.specs.Lists.{same}
use Rattle.codes.specs.Bits.{bytes_for}
use Rattle.codes.specs.Codes.{level_bits, part}
use Rattle.codes.specs.Choice.{size, chosen, is_chosen}
use Rattle.codes.specs.Promises.{ChosenParts}
use Rattle.codes.proofs.Bits.{length-padded}
use Rattle.codes.proofs.Lists.{same_lists, same_itself, not_same}

module _ (code : ℕ) (vs bytes : List ℕ) where
  pub other-code : ((chosen vs).code ≡ code → ⊥) → is_chosen code vs bytes ≡ false
  unfolding is_chosen
  other-code h = rw (ne_eqb code (chosen vs).code (λ e. h (sym e)))

  pub other_length : (length bytes ≡ bytes_for (size code vs) → ⊥) → is_chosen code vs bytes ≡ false
  unfolding is_chosen
  other_length h =
      rw (not_same (part code vs) bytes (λ e. h (rw e at (length-padded (level_bits code vs))))) (and-false (eqb code (chosen vs).code))

  pub chosen-code : (chosen vs).code ≡ code → is_chosen code vs bytes ≡ same (part code vs) bytes
  unfolding is_chosen
  chosen-code e = rw (eq-eqb code (chosen vs).code (sym e))

pub chosen-told : ChosenParts
unfolding is_chosen
chosen-told = record {
  told = λ code vs bytes h.
      let b = (and-eq-true_iff (eqb code (chosen vs).code) (same (part code vs) bytes)).0 h in
      (sym (eqb-true code (chosen vs).code b.0), same_lists (part code vs) bytes b.1);
  back = λ vs. chosen-code (chosen vs).code vs (part (chosen vs).code vs) refl ∙ same_itself (part (chosen vs).code vs);
}
