-- What the functions that decode promise each other. The merge of a layer goes from the last value to the first, in the buffer where
-- the values of the layers after stand at the front.
use Rattle.std.specs.Prelude.{◌≡◌, ℕ, ◌+◌, ◌-◌, ◌*◌, ◌^◌, ◌<◌, ◌≤◌, Option, Some, None, List, length, take, drop, slice_index}
use Rattle.codes.specs.Bits.{number, sum, bits_of}
use Rattle.codes.specs.Decode.{Decoded, all, undecoded, merged}
use Rattle.codes.specs.declared.decoding.Span.{Span}

-- n values of width w lie in the part
abbrev pub InPart : ℕ → ℕ → List ℕ → Type 0
InPart w n bytes = (1 ≤ w) × (w ≤ 32) × (n < 2 ^ 32) × (length bytes < 2 ^ 32) × (n * w ≤ length bytes * 8)

-- value q of them
abbrev pub fixed_value : ℕ → List ℕ → ℕ → ℕ
fixed_value w bytes q = number (take w (drop (q * w) (bits_of bytes)))

-- the first i are written
abbrev pub FixedTo : ℕ → List ℕ → List ℕ → ℕ → Type 0
FixedTo w bytes vs i = (q : ℕ) → q < i → slice_index vs q ≡ fixed_value w bytes q

-- the continuation bits of the layer of n values that begins at bit `at`, and all bits from its chunks on
abbrev pub continuations_at : List ℕ → ℕ → ℕ → List ℕ
continuations_at bytes at n = take n (drop at (bits_of bytes))

abbrev pub chunks_at : List ℕ → ℕ → ℕ → List ℕ
chunks_at bytes at n = drop n (drop at (bits_of bytes))

-- the first n leave room for b bits more in a value
abbrev pub Small : ℕ → List ℕ → ℕ → Type 0
Small b vs n = (q : ℕ) → q < n → slice_index vs q < 2 ^ (32 - b)

-- the values from i on are merged, and the first `kept` of the rests are not used yet
pub record Merging (b : ℕ) (ms bs rests vs : List ℕ) (i kept : ℕ) : Type 0 where
  pub ones : kept ≡ sum (take i ms)
  pub unused : (q : ℕ) → q < kept → slice_index vs q ≡ slice_index rests q
  pub done : (q : ℕ) → i ≤ q → q < length ms → slice_index vs q ≡ slice_index (merged b ms bs rests) q

-- a step of the merge of the layer at bit `at`
abbrev pub Merges : ℕ → List ℕ → ℕ → ℕ → List ℕ → ℕ → ℕ → List ℕ → ℕ → ℕ → Type 0
Merges b bytes at n vs i kept vs' i' kept' =
    (rests : List ℕ) → Merging b (continuations_at bytes at n) (chunks_at bytes at n) rests vs i kept
    → Merging b (continuations_at bytes at n) (chunks_at bytes at n) rests vs' i' kept'

-- the k values from value `from` on of that layer are merged next, and `kept` of the rests are not used yet
pub record LayerGroup (b : ℕ) (bytes vs : List ℕ) (at n from k kept : ℕ) : Type 0 where
  pub count : length vs ≡ n
  pub inside : from + k ≤ n
  pub whole : at + n + n * b ≤ length bytes * 8
  pub ones : kept ≡ sum (take (from + k) (continuations_at bytes at n))
  pub small : Small b vs kept

-- a group by its span is the one that is merged next
abbrev pub GroupNext : ℕ → List ℕ → List ℕ → Span → ℕ → Type 0
GroupNext b bytes vs g kept = LayerGroup b bytes vs g.at (length vs) g.from g.k kept

-- and it has been merged
abbrev pub GroupMerged : ℕ → List ℕ → Span → List ℕ → ℕ → List ℕ → ℕ → Type 0
GroupMerged b bytes g vs kept vs' kept' = Merges b bytes g.at (length vs) vs (g.from + g.k) kept vs' g.from kept'

-- an answer and a buffer's content, by what decoding finds
abbrev pub Says : Decoded → Option Unit → List ℕ → Type 0
Says (all vs) r now = (r ≡ Some tt) × (now ≡ vs)
Says undecoded r now = r ≡ None
