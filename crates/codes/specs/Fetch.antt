-- A fetch: value j of a level of count values, from the level's part alone.
use Rattle.std.specs.Prelude.{◌≡◌, ℕ, zero, suc, ◌+◌, ◌*◌, ◌^◌, ◌≤◌, cond, List, length, take, drop, ◌==◌, nat_lt, slice_index, Option, Some, None}
use Rattle.codes.specs.declared.kinds.Kind.{Kind}
use Rattle.codes.specs.declared.kinds.Kind.TheVariants.{Fixed, Chunked, Refused}
use Rattle.codes.specs.declared.fetching.Layer.{Layer}
use Rattle.codes.specs.Bits.{number, sum, bits_of}
use Rattle.codes.specs.Codes.{kind_of}

-- a value, or refusal 9: the fetch passes its part, or its value is 2 ^ 32 or more
pub data Fetched : Type 0 where
  value : ℕ → Fetched
  outside : Fetched

-- the answer of the code
abbrev pub found : Option ℕ → Fetched
found (Some v) = value v
found None = outside

-- fixed: the value's bits must lie in the part
unfoldable pub fixed_at : ℕ → ℕ → List ℕ → Fetched
fixed_at w j bs = cond (nat_lt (length bs) ((j + 1) * w)) outside (value (number (take w (drop (j * w) bs))))

-- the value with lowest chunk c, of b bits, and what is found above it
abbrev pub extended : ℕ → ℕ → Fetched → Fetched
extended b c (value v) = value (c + 2 ^ b * v)
extended b c outside = outside

-- Chunked: the layer must lie whole in the part. Where the continuation bit is 1 the value goes on in the next layer, which
-- has as many values as there are ones, at the place that the ones before it count.
unfoldable pub fetch_layers : ℕ → ℕ → ℕ → ℕ → List ℕ → Fetched
fetch_layers zero b count j bs = outside
fetch_layers (suc f) b count j bs =
    let c = number (take b (drop (count + j * b) bs)) in
    let above = extended b c (fetch_layers f b (sum (take count bs)) (sum (take j bs)) (drop (count + count * b) bs)) in
    cond (nat_lt (length bs) (count + count * b)) outside (cond (slice_index bs j == 0) (value c) above)

-- Every layer takes at least one bit, so there are no more layers than bits; `fetch-step` in proofs/Fetches has the equation
-- without their number.
unfoldable pub chunked_at : ℕ → ℕ → ℕ → List ℕ → Fetched
chunked_at b count j bs = fetch_layers (suc (length bs)) b count j bs

-- a value of 2 ^ 32 or more is refused; chunks of zeros on top add nothing
abbrev pub within32 : Fetched → Fetched
within32 (value v) = cond (nat_lt v (2 ^ 32)) (value v) outside
within32 outside = outside

abbrev pub kind_fetched : Kind → ℕ → ℕ → List ℕ → Fetched
kind_fetched (Fixed w) count j bs = fixed_at w j bs
kind_fetched (Chunked b) count j bs = within32 (chunked_at b count j bs)
kind_fetched Refused count j bs = outside

unfoldable pub fetched : ℕ → ℕ → ℕ → List ℕ → Fetched
fetched code count j bytes = kind_fetched (kind_of code) count j (bits_of bytes)

-- Value j of a fixed level lies in a part of so many bytes. A fetch requires that, and does not test it; where the part is exactly as long as
-- its values need, `ExactParts.inside` in Promises has it.
abbrev pub Inside : Kind → ℕ → ℕ → Type 0
Inside (Fixed w) j bytes = (j + 1) * w ≤ bytes * 8
Inside (Chunked b) j bytes = Unit {0}
Inside Refused j bytes = Unit {0}

-- ---- a short fetch

-- A fixed value of at most 25 bits in a part of 4 bytes or more; of any other nothing is said.
unfoldable pub short_at : Kind → ℕ → List ℕ → Option ℕ
short_at (Fixed w) j bs = cond (nat_lt 25 w) None (cond (nat_lt (length bs) 32) None (Some (number (take w (drop (j * w) bs)))))
short_at (Chunked b) j bs = None
short_at Refused j bs = None

abbrev pub short_fetched : ℕ → ℕ → List ℕ → Option ℕ
short_fetched code j bytes = short_at (kind_of code) j (bits_of bytes)

-- ---- the next layer, cited by a private function alone

-- the layer after one, and the place in it of the value that is fetched
pub record NextLayer (b : ℕ) (bs : List ℕ) (l r : Layer) : Type 0 where
  pub begins : r.at ≡ l.at + l.count + l.count * b
  pub count_is : r.count ≡ sum (take l.count (drop l.at bs))
  pub index_is : r.index ≡ sum (take l.index (drop l.at bs))
  pub mark_is : r.mark ≡ l.mark + 2
