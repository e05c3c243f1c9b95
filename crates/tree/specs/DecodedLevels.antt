-- What the levels of a strip are decoded to.
use Rattle.std.specs.Prelude.{◌≡◌, Bool, List, [], ◌++◌, ℕ, zero, suc}
use Rattle.codes.specs.Decode.{Decoded, all, undecoded, decoded, is_decoded, decoded_or0}
use Rattle.tree.specs.declared.nodes.Levels.{Levels}
use Rattle.tree.specs.Shape.{height}
use Rattle.tree.specs.Levels.{count_of, code_of, part_of}

-- what a level is decoded to
abbrev pub decoded_at : Levels → List ℕ → ℕ → Decoded
decoded_at at s d = decoded (code_of at d) (count_of at.pins d) (part_of at.ends s d)

-- values, then those of another level
abbrev pub joined : Decoded → Decoded → Decoded
joined (all us) (all vs) = all (us ++ vs)
joined (all us) undecoded = undecoded
joined undecoded d = undecoded

-- what the first k levels are decoded to, in node order; level k stands after them
unfoldable pub decoded_to : Levels → List ℕ → ℕ → Decoded
decoded_to at s zero = all []
decoded_to at s (suc k) = joined (decoded_to at s k) (decoded_at at s k)

-- all levels
abbrev pub decoded_levels : Levels → List ℕ → Decoded
decoded_levels at s = decoded_to at s (height at.pins)

-- whether all levels are decoded, and what that leaves in a buffer with an entry for each node
pub record Decodes (at : Levels) (s : List ℕ) (decoded : Bool) (values : List ℕ) : Type 0 where
  pub told : decoded ≡ is_decoded (decoded_levels at s)
  pub left : values ≡ decoded_or0 at.pins (decoded_levels at s)
