-- What choose learns of the values.
use Rattle.std.specs.Prelude.{◌≡◌, ℕ, ◌+◌, ◌-◌, ◌≤◌, cond, List, [], ◌∷◌, length, ◌==◌, slice_index}
use Rattle.codes.specs.declared.measuring.Counts.{Counts}
use Rattle.codes.specs.Codes.{rest, Within}
use Rattle.codes.specs.Choice.{width}

-- how many values have z zero bits above their highest one bit, of 32
unfoldable pub tally : ℕ → List ℕ → ℕ
tally z [] = 0
tally z (v ∷ vs) = cond (32 - width v == z) 1 0 + tally z vs

-- their count, in four parts
abbrev pub counted : Counts → ℕ → ℕ
counted counts z = slice_index counts.first z + slice_index counts.second z + (slice_index counts.third z + slice_index counts.fourth z)

pub record Tallied (vs : List ℕ) (counts : Counts) : Type 0 where
  pub each : (z : ℕ) → counted counts z ≡ tally z vs
  pub within : Within 32 vs

-- over[t] of the values have more than t bits
pub record Measured (vs over : List ℕ) : Type 0 where
  pub each : (t : ℕ) → t ≤ 32 → slice_index over t ≡ length (rest t vs)
  pub within : Within 32 vs
