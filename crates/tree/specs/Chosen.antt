-- Whether the levels of a strip are what pack writes for the values that they are decoded to.
use Rattle.std.specs.Prelude.{Bool, true, false, ◌&&◌, List, ℕ, zero, suc}
use Rattle.codes.specs.Choice.{is_chosen}
use Rattle.codes.specs.Decode.{Decoded, all, undecoded}
use Rattle.tree.specs.declared.nodes.Levels.{Levels}
use Rattle.tree.specs.Shape.{height}
use Rattle.tree.specs.Levels.{code_of, part_of}
use Rattle.tree.specs.DecodedLevels.{decoded_at}

-- a part in a code, by what it is decoded to
abbrev pub chosen_by : ℕ → List ℕ → Decoded → Bool
chosen_by code bytes (all vs) = is_chosen code vs bytes
chosen_by code bytes undecoded = false

abbrev pub level_chosen : Levels → List ℕ → ℕ → Bool
level_chosen at s d = chosen_by (code_of at d) (part_of at.ends s d) (decoded_at at s d)

-- the first k levels; level k stands after them
unfoldable pub chosen_to : Levels → List ℕ → ℕ → Bool
chosen_to at s zero = true
chosen_to at s (suc k) = chosen_to at s k && level_chosen at s k

abbrev pub all_chosen : Levels → List ℕ → Bool
all_chosen at s = chosen_to at s (height at.pins)
