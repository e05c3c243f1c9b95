-- A group of a layer's values, merged from the last to the first.
use Rattle.std.proofs.Common.{◌≡◌, ℕ, zero, suc, ◌+◌, ◌-◌, ◌*◌, ◌/◌, ◌%◌, ◌^◌, ◌<◌, ◌≤◌, List, length, get_or, take, drop, set, sym, refl, ap, ◌∙◌, mod-lt, mul-le-mul_right, arith, length-set, get_or-drop, get_or-take, drop-drop, pow_pos, pow-add}
use lib.Arith.{digits_lt}
use Rattle.codes.specs.Bits.{number, sum, bits_of}
use Rattle.codes.specs.Codes.{Within}
use Rattle.codes.specs.Merging.{continuations_at, chunks_at, Merges, LayerGroup}
use Rattle.codes.proofs.Bits.{bits-fixed, length-fixed, within-take, within-drop, number-one, sum-le}
use Rattle.codes.proofs.Words.{last-number}
use Rattle.codes.proofs.Merges.{length-continuations, left, small-next, merging-next}

-- ---- a group, and its last value

-- the continuation bits of a group in a word, one bit each, and its chunks
abbrev pub continuation_word : List ℕ → ℕ → ℕ → ℕ → ℕ
continuation_word bytes at from k = number (take (k * 1) (drop (at + from) (bits_of bytes)))

abbrev pub chunk_word : ℕ → List ℕ → ℕ → ℕ → ℕ → ℕ → ℕ
chunk_word b bytes at n from k = number (take (k * b) (drop (at + n + from * b) (bits_of bytes)))

-- the group's chunks lie in the part
pub group-whole : {b : ℕ} {bytes vs : List ℕ} {at n from k kept : ℕ} → LayerGroup b bytes vs at n from k kept → at + n + (from + k) * b ≤ length bytes * 8
group-whole {b} g = omega (arith, mul-le-mul_right b g.inside)

-- a value has 32 bits at most: its chunk c, and what is above that
value-fits : {b v c : ℕ} → b ≤ 8 → v < 2 ^ (32 - b) → c < 2 ^ b → v * 2 ^ b + c < 2 ^ 32
value-fits {b} h l k = let e : 32 - b + b ≡ 32 = omega arith in rw (← (pow-add 2 (32 - b) b), e) at (digits_lt {c = 2 ^ b} l k)

-- the last value's chunk, and the chunks before it
last-chunk : (b : ℕ) (bytes : List ℕ) (at n from j : ℕ) → at + n + (from + suc j) * b ≤ length bytes * 8
    → (chunk_word b bytes at n from (suc j) % 2 ^ b ≡ number (take b (drop ((from + j) * b) (chunks_at bytes at n))))
    × (chunk_word b bytes at n from (suc j) / 2 ^ b ≡ chunk_word b bytes at n from j)
last-chunk b bytes at n from j h =
    let k = last-number bytes (at + n + from * b) j b (omega arith) in
    let q : at + n + from * b + j * b ≡ at + n + (from + j) * b = omega arith in
    let there : drop (at + n + from * b + j * b) (bits_of bytes) ≡ drop ((from + j) * b) (chunks_at bytes at n) =
    rw (drop-drop n at (bits_of bytes), drop-drop ((from + j) * b) (at + n) (bits_of bytes), q) in
    (rw (← there) k.0, k.1)

-- of a group that is being merged j values are left, with their bits in two words
pub record Left (b : ℕ) (bytes vs : List ℕ) (at n from j kept mores chunks : ℕ) : Type 0 where
  pub group : LayerGroup b bytes vs at n from j kept
  pub mores_are : mores ≡ continuation_word bytes at from j
  pub chunks_are : chunks ≡ chunk_word b bytes at n from j

-- the value that a turn writes, its chunk and what it has above that
abbrev pub merged-value : ℕ → List ℕ → ℕ → ℕ → ℕ → ℕ
merged-value b vs kept mores chunks = get_or vs (kept - mores % 2) 0 * (mores % 2) * 2 ^ b + chunks % 2 ^ b

-- a turn merges the last of j + 1 values, and the j before it are left, with the words shifted past it
pub record Last (b : ℕ) (bytes vs : List ℕ) (at n from j kept mores chunks : ℕ) : Type 0 where
  pub some : mores % 2 ≤ kept
  pub few : kept - mores % 2 ≤ from + j
  pub fits : merged-value b vs kept mores chunks < 2 ^ 32
  pub left : Left b bytes (set vs (from + j) (merged-value b vs kept mores chunks)) at n from j (kept - mores % 2) (mores / 2) (chunks / 2 ^ b)
  pub merges : Merges b bytes at n vs (from + suc j) kept (set vs (from + j) (merged-value b vs kept mores chunks)) (from + j) (kept - mores % 2)

last_of : (b : ℕ) (bytes vs : List ℕ) (at n from j kept : ℕ) → b ≤ 8 → LayerGroup b bytes vs at n from (suc j) kept
    → Last b bytes vs at n from j kept (continuation_word bytes at from (suc j)) (chunk_word b bytes at n from (suc j))
last_of b bytes vs at n from j kept h8 was =
    let bits = bits_of bytes in
    let ms = continuations_at bytes at n in
    let i = from + j in
    let mores = continuation_word bytes at from (suc j) in
    let chunks = chunk_word b bytes at n from (suc j) in
    let lb = length-fixed 8 bytes in
    let lm = length-continuations bytes at n (omega arith) in
    let w : Within 1 ms = within-take 1 n (drop at bits) (within-drop 1 at bits (bits-fixed 8 bytes)) in
    let m = last-number bytes (at + from) j 1 (omega arith) in
    let chunk = last-chunk b bytes at n from j (group-whole was) in
    let p : at + from + j * 1 ≡ at + i = omega arith in
    let bit : mores % 2 ≡ get_or ms i 0 =
    m.0 ∙ number-one bits (at + from + j * 1) (omega arith) ∙ ap (λ (q : ℕ). get_or bits q 0) p
    ∙ sym (get_or-take n (drop at bits) i 0 (omega arith) ∙ get_or-drop at bits i 0) in
    let s : from + suc j ≡ suc i = omega arith in
    let lf = left ms i kept (omega arith) (rw s at was.ones) in
    let ones : kept - mores % 2 ≡ sum (take i ms) = rw bit lf.0 in
    let some : mores % 2 ≤ kept = rw bit lf.1 in
    let few : kept - mores % 2 ≤ i = omega (arith, sum-le ms i w) in
    let x = merged-value b vs kept mores chunks in
    let value : x ≡ get_or vs (kept - mores % 2) 0 * (mores % 2) * 2 ^ b + number (take b (drop (i * b) (chunks_at bytes at n))) = rw chunk.0 refl in
    record {
      some = some;
      few = few;
      fits = value-fits h8 (above (mores % 2) (omega arith) some) (mod-lt chunks (pow_pos b));
      left =
          record {
            group =
                record {
                  count = length-set vs i x ∙ was.count;
                  inside = omega arith;
                  whole = was.whole;
                  ones = ones;
                  small = small-next b vs kept (kept - mores % 2) i x (omega arith) few was.small;
                };
            mores_are = m.1;
            chunks_are = chunk.1;
          };
      merges = λ rests t. rw (← bit) at (merging-next b ms (chunks_at bytes at n) rests vs i kept x w (omega arith) (omega arith) (rw (← bit) value) (rw s at t));
    }
  where
    above : (m : ℕ) → m < 2 → m ≤ kept → get_or vs (kept - m) 0 * m < 2 ^ (32 - b)
    above zero h k = omega (arith, pow_pos (32 - b))
    above (suc zero) h k = omega (arith, was.small (kept - 1) (omega arith))
    above (suc (suc m)) h k = absurd (omega arith)

-- a turn of a loop
pub turn : {b : ℕ} {bytes vs : List ℕ} {at n from j kept mores chunks : ℕ} → b ≤ 8 → Left b bytes vs at n from j kept mores chunks → 0 < j
    → Last b bytes vs at n from (j - 1) kept mores chunks
turn {b} {bytes} {vs} {at} {n} {from} {j} {kept} h8 was h =
    let e : j ≡ suc (j - 1) = omega arith in
    rw (was.mores_are, was.chunks_are) (rw (← e) at (last_of b bytes vs at n from (j - 1) kept h8 (rw e at was.group)))
