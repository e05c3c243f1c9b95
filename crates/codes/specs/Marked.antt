-- Levels with the parts that they must have, computed. The first three are those of list A, marked in 01, of which the third ties at
-- 15 bits for b = 2 and b = 4. The next is that of the list 0. The last ties at 12 bits for width 3 and b = 1.
use Rattle.std.specs.Prelude.{◌≡◌, ℕ, ◌+◌, Bool, true, false, not, ◌&&◌, List, [], ◌∷◌, length, ◌==◌, refl}
use Rattle.codes.specs.Lists.{same}
use Rattle.codes.specs.Bits.{bits, number, sum, fixed, numbers, padded}
use Rattle.codes.specs.Codes.{kind_of, rest, layers, kind_bits}
use Rattle.codes.specs.Choice.{width_in, widest, best_chunked, chosen, is_chosen}
use Rattle.codes.specs.Fetch.{Fetched, value, outside, fixed_at, fetch_layers, chunked_at, fetched}
use Rattle.codes.specs.Decode.{Decoded, all, undecoded, merged, decoded_layers, kind_decoded, decoded, is_decoded}

-- a level with the code that pack chooses for it, and its part
pub record Level : Type 0 where
  pub values : List ℕ
  pub code : ℕ
  pub bytes : List ℕ

abbrev pub marked : List Level
marked =
    record { values = 400 ∷ []; code = 9; bytes = 0xc8 ∷ 0x00 ∷ [] }
    ∷ record { values = 150 ∷ 600 ∷ []; code = 0x0a; bytes = 0x25 ∷ 0xa5 ∷ 0x80 ∷ [] }
    ∷ record { values = 150 ∷ 0 ∷ []; code = 0x42; bytes = 0xa2 ∷ 0xd4 ∷ [] }
    ∷ record { values = 0 ∷ []; code = 0; bytes = [] }
    ∷ record { values = 7 ∷ 0 ∷ 0 ∷ 0 ∷ []; code = 3; bytes = 0xe0 ∷ 0x00 ∷ [] }
    ∷ []

abbrev is : ℕ → Fetched → Bool
is v (value x) = x == v
is v outside = false

-- a fetch gives each of the values back, from number j on
abbrev back : Level → ℕ → List ℕ → Bool
back l j [] = true
back l j (v ∷ vs) = is v (fetched l.code (length l.values) j l.bytes) && back l (j + 1) vs

abbrev are : List ℕ → Decoded → Bool
are vs (all xs) = same xs vs
are vs undecoded = false

-- pack chooses the code, and writes the bytes, and a fetch reads each value, and decoding all of them
abbrev passes : Level → Bool
passes l =
    is_chosen l.code l.values l.bytes && back l 0 l.values
    && are l.values (decoded l.code (length l.values) l.bytes)

abbrev all_pass : List Level → Bool
all_pass [] = true
all_pass (l ∷ ls) = passes l && all_pass ls

pub marked-pass : all_pass marked ≡ true
unfolding bits number sum fixed numbers padded kind_of rest layers kind_bits width_in widest best_chunked chosen is_chosen fixed_at fetch_layers chunked_at fetched merged decoded_layers kind_decoded
marked-pass = refl

-- A value with a chunk of zeros on top is fetched, and not decoded: the bits 11 00 with b = 1.
pub zeros-on-top : (is 1 (fetched 65 1 0 (0xc0 ∷ [])) && not (is_decoded (decoded 65 1 (0xc0 ∷ [])))) ≡ true
unfolding bits number sum fixed kind_of fetch_layers chunked_at fetched merged decoded_layers kind_decoded
zeros-on-top = refl

-- The byte 00 is decoded to the list 0 by b = 1, and is not what pack writes: refusal 12's example in 01.
pub other-bytes : (are (0 ∷ []) (decoded 65 1 (0 ∷ [])) && not (is_chosen 65 (0 ∷ []) (0 ∷ []))) ≡ true
unfolding bits number sum fixed numbers padded kind_of rest layers kind_bits width_in widest best_chunked chosen is_chosen merged decoded_layers kind_decoded
other-bytes = refl
