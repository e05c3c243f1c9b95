-- What is shown of the level codes besides each function's contract. proofs/Promises proves each, as
-- `round_trip`, `lengths`, `best-choice`, `code-known`, `least-width`, `decode-fetches`, `decode-back`, `decoded-part`, `chosen-parts`, `exact-parts`,
-- `short-fetches`, `zero-marks` and `list-laws`.
use Rattle.std.specs.Prelude.{◌≡◌, ℕ, ◌+◌, ◌*◌, ◌^◌, ◌<◌, ◌≤◌, true, List, [], ◌∷◌, ◌++◌, map, length, get_or, slice_index, slice_set, Some}
use Rattle.codes.specs.declared.kinds.Kind.{Kind}
use Rattle.codes.specs.declared.kinds.Kind.TheVariants.{Fixed, Chunked, Refused}
use Rattle.codes.specs.Lists.{same, replaced, filled_to}
use Rattle.codes.specs.Bits.{sum, bits_of, bytes_for}
use Rattle.codes.specs.Codes.{kind_of, part, is_exact, Within, Holds}
use Rattle.codes.specs.Choice.{width_in, chunks, size, chosen, is_chosen}
use Rattle.codes.specs.Fetch.{value, outside, fetched, Inside, short_fetched}
use Rattle.codes.specs.declared.marking.Mark.{Mark}
use Rattle.codes.specs.Marks.{none, Marks}
use Rattle.codes.specs.Decode.{all, decoded}

-- 1. By any code that holds the values, a fetch from their part, followed by any bytes or none, gives each value back.
abbrev pub RoundTrip : Type 0
RoundTrip = (code : ℕ) (vs after : List ℕ) (j : ℕ) → Holds (kind_of code) vs → j < length vs
    → fetched code (length vs) j (part code vs ++ after) ≡ value (slice_index vs j)

-- 2. A part's length is the size rounded up to bytes; a fixed level takes its width for each value, and a chunked one b + 1 bits for each chunk of each value.
pub record Lengths : Type 0 where
  pub rounded : (code : ℕ) (vs : List ℕ) → length (part code vs) ≡ bytes_for (size code vs)
  pub fixed_size : (code w : ℕ) (vs : List ℕ) → kind_of code ≡ Fixed w → size code vs ≡ length vs * w
  pub chunked_size : (code b : ℕ) (vs : List ℕ) → kind_of code ≡ Chunked b → Within 32 vs → size code vs ≡ (b + 1) * sum (map (chunks b) vs)

-- 3. The chosen code holds the values, its size is the one given with it, and no code byte that holds them has fewer bits. Among
-- those with as many bits it has the least number: a fixed code goes before the chunked ones, and those by b. It has at most
-- 32 bits for each value.
pub record Best (vs : List ℕ) : Type 0 where
  pub holds : Holds (kind_of (chosen vs).code) vs
  pub its_size : (chosen vs).size ≡ size (chosen vs).code vs
  pub fewest : (code : ℕ) → Holds (kind_of code) vs → (chosen vs).size ≤ size code vs
  pub on_tie : (code : ℕ) → Holds (kind_of code) vs → size code vs ≡ (chosen vs).size → (chosen vs).code ≤ code
  pub at_most : (chosen vs).size ≤ length vs * 32

abbrev pub BestChoice : Type 0
BestChoice = (vs : List ℕ) → Within 32 vs → Best vs

-- 4. A fixed code is its own width, at most 32, and a chunked code is 64 + b with b from 1 to 8.
abbrev pub Known : Kind → ℕ → Type 0
Known (Fixed w) code = (w ≤ 32) × (w ≡ code)
Known (Chunked b) code = (1 ≤ b) × (b ≤ 8) × (64 + b ≡ code)
Known Refused code = Unit {0}

abbrev pub CodeKnown : Type 0
CodeKnown = (code : ℕ) (k : Kind) → kind_of code ≡ k → Known k code

-- 5. The bits of a number up to its highest one bit hold it, and no fewer do.
pub record LeastWidth : Type 0 where
  pub holds : (f v : ℕ) → v < 2 ^ f → v < 2 ^ width_in f v
  pub least : (f v w : ℕ) → v < 2 ^ w → width_in f v ≤ w

-- 6. What is decoded is what a fetch of each value finds.
abbrev pub DecodeFetches : Type 0
DecodeFetches = (code n : ℕ) (bytes vs : List ℕ) → decoded code n bytes ≡ all vs
    → (length vs ≡ n) × ((j : ℕ) → j < n → fetched code n j bytes ≡ value (slice_index vs j))

-- 7. By any code that holds the values, their part is decoded to them.
abbrev pub DecodeBack : Type 0
DecodeBack = (code : ℕ) (vs : List ℕ) → Holds (kind_of code) vs → decoded code (length vs) (part code vs) ≡ all vs

-- 8. What is decoded has the bytes as its part, where they are as many as the part's and no bit after the level's is 1.
abbrev pub DecodedPart : Type 0
DecodedPart = (code n : ℕ) (bytes vs : List ℕ) → decoded code n bytes ≡ all vs → Within 8 bytes → length bytes ≡ bytes_for (size code vs)
    → ((j : ℕ) → size code vs ≤ j → slice_index (bits_of bytes) j ≡ 0) → part code vs ≡ bytes

-- 9. The test whether bytes are what pack writes for the values tells it.
pub record ChosenParts : Type 0 where
  pub told : (code : ℕ) (vs bytes : List ℕ) → is_chosen code vs bytes ≡ true → ((chosen vs).code ≡ code) × (part code vs ≡ bytes)
  pub back : (vs : List ℕ) → is_chosen (chosen vs).code vs (part (chosen vs).code vs) ≡ true

-- 10. Bytes that hold some bits are no fewer than `bytes_for` says. The part of values in a code that holds them may have its length. Where a
-- fixed level has exactly the bytes that it needs, each of its values lies in its part, and no fetch of it is refused.
pub record ExactParts : Type 0 where
  pub fewest : (bits : ℕ) → (bits ≤ bytes_for bits * 8) × ((bytes : ℕ) → bits ≤ bytes * 8 → bytes_for bits ≤ bytes)
  pub written : (code : ℕ) (vs : List ℕ) → Holds (kind_of code) vs → is_exact (kind_of code) (length vs) (length (part code vs)) ≡ true
  pub inside : (k : Kind) (count bytes j : ℕ) → is_exact k count bytes ≡ true → j < count → Inside k j bytes
  pub only_chunked : (code count j : ℕ) (bytes : List ℕ) → is_exact (kind_of code) count (length bytes) ≡ true → j < count → fetched code count j bytes ≡ outside
      → (b : ℕ) × (kind_of code ≡ Chunked b)

-- 11. A short fetch that says something says what any fetch finds, however many values there are.
abbrev pub ShortFetches : Type 0
ShortFetches = (code count j v : ℕ) (bytes : List ℕ) → Inside (kind_of code) j (length bytes) → short_fetched code j bytes ≡ Some v
    → fetched code count j bytes ≡ value v

-- 12. Marks of no bits are true of any part.
abbrev pub ZeroMarks : Type 0
ZeroMarks = (bytes : List ℕ) (ms : List Mark) → ((k : ℕ) → get_or ms k none ≡ none) → Marks bytes ms

-- 13. The laws of lists and buffers that the layers above cite.
pub record ListLaws : Type 0 where
  -- the test tells whether two lists are the same
  pub same_lists : (xs ys : List ℕ) → same xs ys ≡ true → xs ≡ ys
  pub same_itself : (xs : List ℕ) → same xs xs ≡ true
  -- no entries leave a buffer as it was
  pub replaced_none : (out : List ℕ) (a : ℕ) → replaced out a [] ≡ out
  -- entries, and further ones where they end
  pub replaced_more : (out : List ℕ) (a b : ℕ) (p q : List ℕ) → a + length p ≡ b → b ≤ length out → replaced (replaced out a p) b q ≡ replaced out a (p ++ q)
  -- one entry by itself, and entries after it
  pub replaced_next : (out : List ℕ) (i x : ℕ) (q : List ℕ) → i < length out → replaced (slice_set out i x) (i + 1) q ≡ replaced out i (x ∷ q)
  -- entries before it as well
  pub replaced_around : (out : List ℕ) (a b : ℕ) (p : List ℕ) (x : ℕ) (q : List ℕ) → a + length p ≡ b → b < length out
      → replaced (slice_set (replaced out a p) b x) (b + 1) q ≡ replaced out a (p ++ x ∷ q)
  -- where there are as many entries as the buffer has, nothing is 0 after them
  pub filled_whole : (n : ℕ) (xs : List ℕ) → length xs ≡ n → filled_to n xs ≡ xs
