-- Decoding: all values of a level at once, from the level's part alone. What is decoded is what fetches find (`DecodeFetches` in
-- Promises); a level that is not decoded may still hold values that they find.
use Rattle.std.specs.Prelude.{ℕ, zero, suc, ◌+◌, ◌-◌, ◌*◌, ◌^◌, Bool, true, false, cond, ◌&&◌, List, [], ◌∷◌, length, take, drop, replicate, ◌==◌, nat_lt, slice_index}
use Rattle.codes.specs.declared.kinds.Kind.{Kind}
use Rattle.codes.specs.declared.kinds.Kind.TheVariants.{Fixed, Chunked, Refused}
use Rattle.codes.specs.Bits.{number, sum, numbers, bits_of}
use Rattle.codes.specs.Codes.{kind_of}

pub data Decoded : Type 0 where
  all : List ℕ → Decoded
  undecoded : Decoded

-- A layer's values, by its continuation bits and the bits of its chunks: above its chunk a value has, where its continuation bit
-- is 1, the next of the values of the layers after.
unfoldable pub merged : ℕ → List ℕ → List ℕ → List ℕ → List ℕ
merged b [] bs rests = []
merged b (m ∷ ms) bs rests = (number (take b bs) + m * (2 ^ b * slice_index rests 0)) ∷ merged b ms (drop b bs) (drop m rests)

-- every value is at least 1, and below the limit
abbrev pub from_one : ℕ → List ℕ → Bool
from_one limit [] = true
from_one limit (v ∷ vs) = nat_lt 0 v && nat_lt v limit && from_one limit vs

-- Those of the layers after must leave room for b bits more in a value, and none may be 0: no part that encode writes has a chunk of
-- zeros on top.
abbrev pub layered : ℕ → List ℕ → List ℕ → Decoded → Decoded
layered b ms bs (all rests) = cond (from_one (2 ^ (32 - b)) rests) (all (merged b ms bs rests)) undecoded
layered b ms bs undecoded = undecoded

-- n values in at most f layers, each of which must lie whole in the part
unfoldable pub decoded_layers : ℕ → ℕ → ℕ → List ℕ → Decoded
decoded_layers zero b n bs = cond (n == 0) (all []) undecoded
decoded_layers (suc f) b n bs =
    cond (nat_lt (length bs) (n + n * b)) undecoded
    (layered b (take n bs) (drop n bs) (decoded_layers f b (sum (take n bs)) (drop (n + n * b) bs)))

-- a value of 32 bits has at most 32 chunks
unfoldable pub kind_decoded : Kind → ℕ → List ℕ → Decoded
kind_decoded (Fixed w) n bs = cond (nat_lt (length bs) (n * w)) undecoded (all (numbers w n bs))
kind_decoded (Chunked b) n bs = decoded_layers 32 b n bs
kind_decoded Refused n bs = undecoded

abbrev pub decoded : ℕ → ℕ → List ℕ → Decoded
decoded code n bytes = kind_decoded (kind_of code) n (bits_of bytes)

abbrev pub is_decoded : Decoded → Bool
is_decoded (all vs) = true
is_decoded undecoded = false

-- what decoding leaves in a buffer of n entries
abbrev pub decoded_or0 : ℕ → Decoded → List ℕ
decoded_or0 n (all vs) = vs
decoded_or0 n undecoded = replicate n 0
