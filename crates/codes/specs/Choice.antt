-- The code that pack chooses for a level, and the test whether a part is what pack writes.
use Rattle.std.specs.Prelude.{ℕ, zero, suc, ◌+◌, ◌-◌, ◌/◌, max, Bool, cond, ◌&&◌, List, [], ◌∷◌, length, ◌==◌, nat_lt}
use Rattle.codes.specs.declared.choosing.Choice.{Choice}
use Rattle.codes.specs.Lists.{same}
use Rattle.codes.specs.Codes.{level_bits, part}

-- the bits of v up to its highest one bit, of which it has at most f
unfoldable pub width_in : ℕ → ℕ → ℕ
width_in zero v = 0
width_in (suc f) v = let r = suc (width_in f (v / 2)) in cond (v == 0) 0 r

-- the least width that holds a 32-bit value; `width-least` and `width-holds` in proofs/Widths say so
abbrev pub width : ℕ → ℕ
width v = width_in 32 v

-- the least width that holds the largest value, 0 if all are 0
unfoldable pub widest : List ℕ → ℕ
widest [] = 0
widest (v ∷ vs) = max (width v) (widest vs)

-- one chunk for 0, otherwise as many b-bit chunks as reach the highest one bit
abbrev pub chunks : ℕ → ℕ → ℕ
chunks b v = max 1 ((width v + (b - 1)) / b)

-- bits before padding
abbrev pub size : ℕ → List ℕ → ℕ
size code vs = length (level_bits code vs)

-- a code with its size
abbrev pub offer : ℕ → List ℕ → Choice
offer code vs = record { code = code; size = size code vs }

-- the second where it has fewer bits
abbrev pub better : Choice → Choice → Choice
better a b = cond (nat_lt b.size a.size) b a

-- the best of the chunked codes with b from 1 to suc k, the smaller b on a tie
unfoldable pub best_chunked : ℕ → List ℕ → Choice
best_chunked zero vs = offer 65 vs
best_chunked (suc k) vs = better (best_chunked k vs) (offer (66 + k) vs)

-- the code with fewest bits; on a tie a fixed code wins
unfoldable pub chosen : List ℕ → Choice
chosen vs = better (offer (widest vs) vs) (best_chunked 7 vs)

-- whether bytes are what pack writes for the values: their part, in the chosen code
unfoldable pub is_chosen : ℕ → List ℕ → List ℕ → Bool
is_chosen code vs bytes = code == (chosen vs).code && same (part code vs) bytes
