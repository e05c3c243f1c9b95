-- The image of a list: the one strip that it packs to.
use Rattle.std.specs.Prelude.{List, [], ◌++◌, ℕ, zero, suc, ◌≤◌, T, length}
use Rattle.codes.specs.Codes.{Within, part}
use Rattle.codes.specs.Choice.{chosen}
use Rattle.tree.specs.declared.nodes.Levels.{Levels}
use Rattle.tree.specs.Shape.{height}
use Rattle.tree.specs.Lists.{ordered}
use Rattle.tree.specs.Stored.{stored_values}
use Rattle.tree.specs.Levels.{level_values}
use Rattle.strip.specs.Layout.{max_pins, header, entry, laid_out}

-- the lists that pack: 1 to 65,535 times of 32 bits, none less than the one before
pub record Packable (xs : List ℕ) : Type 0 where
  pub some : 1 ≤ length xs
  pub few : length xs ≤ max_pins
  pub times : Within 32 xs
  pub in_order : T (ordered xs)

-- of the values in node order, the code with fewest bits for those of the level below d others, and their part in it
unfoldable pub code_for : List ℕ → ℕ → ℕ
code_for values d = (chosen (level_values values d)).code

unfoldable pub part_for : List ℕ → ℕ → List ℕ
part_for values d = part (code_for values d) (level_values values d)

abbrev pub length_for : List ℕ → ℕ → ℕ
length_for values d = length (part_for values d)

-- where their parts lie in the strip
abbrev pub planned : List ℕ → Levels
planned values = laid_out (length values) (code_for values) (length_for values)

abbrev pub entry_for : List ℕ → ℕ → List ℕ
entry_for values d = entry (code_for values d) (length_for values d)

-- the bytes that the first d levels have, joined
unfoldable pub joined : (ℕ → List ℕ) → ℕ → List ℕ
joined bytes zero = []
joined bytes (suc d) = joined bytes d ++ bytes d

-- the strip of values in node order: header, level entries, parts
unfoldable pub strip_of : List ℕ → List ℕ
strip_of values = let h = height (length values) in header (length values) ++ joined (entry_for values) h ++ joined (part_for values) h

-- the image of a list, to which it packs: the strip of what its tree stores
abbrev pub image : List ℕ → List ℕ
image xs = strip_of (stored_values xs)
