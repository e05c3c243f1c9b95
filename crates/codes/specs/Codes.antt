-- Level codes: what a code byte says, and the part of a level in it.
use Rattle.std.specs.Prelude.{ℕ, zero, suc, ◌-◌, ◌*◌, ◌/◌, ◌^◌, ◌<◌, Bool, true, false, cond, List, [], ◌∷◌, ◌++◌, map, drop, replicate, ◌==◌, nat_lt, slice_index}
use Rattle.codes.specs.declared.kinds.Kind.{Kind}
use Rattle.codes.specs.declared.kinds.Kind.TheVariants.{Fixed, Chunked, Refused}
use Rattle.codes.specs.Bits.{fixed, bytes_for, padded}

-- codes 0 to 32 are fixed widths in bits, codes 65 to 72 chunked with b = code - 64; all others are refused (8)
unfoldable pub kind_of : ℕ → Kind
kind_of code = cond (nat_lt code 33) (Fixed code) (cond (nat_lt code 65) Refused (cond (nat_lt code 73) (Chunked (code - 64)) Refused))

-- the continuation bit of v: 1 where another chunk follows its lowest b bits
abbrev pub continuation : ℕ → ℕ → ℕ
continuation b v = cond (v / 2 ^ b == 0) 0 1

-- what the values have above their lowest b bits, of those that have anything there
unfoldable pub rest : ℕ → List ℕ → List ℕ
rest b [] = []
rest b (v ∷ vs) = cond (v / 2 ^ b == 0) (rest b vs) (v / 2 ^ b ∷ rest b vs)

-- The first f layers of the values. A layer is its continuation bits, then its chunks, least significant chunk first; the
-- next layer has the values that go on.
unfoldable pub layers : ℕ → ℕ → List ℕ → List ℕ
layers zero b vs = []
layers (suc f) b vs = map (continuation b) vs ++ (fixed b vs ++ layers f b (rest b vs))

-- The chunked code. A chunk takes at least one bit off a value, so 32 layers are enough; `chunked-step` in proofs/Layers
-- has the equation without their number.
abbrev pub chunked : ℕ → List ℕ → List ℕ
chunked b vs = layers 32 b vs

unfoldable pub kind_bits : Kind → List ℕ → List ℕ
kind_bits (Fixed w) vs = fixed w vs
kind_bits (Chunked b) vs = chunked b vs
kind_bits Refused vs = []

-- the bits of a level before padding
abbrev pub level_bits : ℕ → List ℕ → List ℕ
level_bits code vs = kind_bits (kind_of code) vs

-- the part of a level: padded with zero bits to whole bytes
abbrev pub part : ℕ → List ℕ → List ℕ
part code vs = padded (level_bits code vs)

-- Whether a level of count values may have so many bytes: a fixed one exactly the fewest for its width and number of values, a chunked one
-- any number, since a fetch finds out, and one with a refused code none.
abbrev pub is_exact : Kind → ℕ → ℕ → Bool
is_exact (Fixed w) count bytes = bytes == bytes_for (count * w)
is_exact (Chunked b) count bytes = true
is_exact Refused count bytes = false

-- every value has at most w bits
abbrev pub Within : ℕ → List ℕ → Type 0
Within w vs = (j : ℕ) → slice_index vs j < 2 ^ w

-- the code holds the values
abbrev pub Holds : Kind → List ℕ → Type 0
Holds (Fixed w) vs = Within w vs
Holds (Chunked b) vs = Within 32 vs
Holds Refused vs = ⊥

-- what encode leaves in the list that it works in, for so many values: a chunked code uses as many entries, and leaves them 0
unfoldable pub worked : Kind → ℕ → List ℕ → List ℕ
worked (Fixed w) n work = work
worked (Chunked b) n work = replicate n 0 ++ drop n work
worked Refused n work = work
