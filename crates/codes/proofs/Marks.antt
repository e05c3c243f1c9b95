-- Marks: one is counted on, one is kept, and those of no bits are marks of any part.
use Rattle.std.proofs.Common.{◌≡◌, ℕ, ◌+◌, ◌-◌, ◌<◌, ◌≤◌, List, length, get_or, take, drop, set, refl, arith, rules}
use Rattle.codes.specs.declared.marking.Mark.{Mark}
use Rattle.codes.specs.Bits.{sum, bits_of}
use Rattle.codes.specs.Marks.{Counted, none, Marks}
use Rattle.codes.proofs.Words.{ones-more, sum-part-le}

-- a mark has no more ones than bits
pub counted-few : (bytes : List ℕ) (m : Mark) → Counted (bits_of bytes) m → m.ones ≤ m.to - m.from
counted-few bytes m c = omega (arith, c.ones_are, sum-part-le bytes m.from (m.to - m.from))

-- with the ones that are counted from its end on
pub counted-on : (bytes : List ℕ) (m : Mark) (to r : ℕ) → Counted (bits_of bytes) m → m.to ≤ to → r ≡ sum (take (to - m.to) (drop m.to (bits_of bytes)))
    → Counted (bits_of bytes) (record { from = m.from; to = to; ones = m.ones + r })
counted-on bytes m to r c h e =
    let i = c.in_order in
    let parts : to - m.from ≡ m.to - m.from + (to - m.to) = omega arith in
    let end : m.from + (m.to - m.from) ≡ m.to = omega arith in
    record { in_order = omega arith; ones_are = rw (parts, ones-more bytes m.from (m.to - m.from) (to - m.to), end, c.ones_are, e) }

-- one mark more that is true, in the place of mark k
pub marks-kept : {bytes : List ℕ} {ms : List Mark} (k : ℕ) (m : Mark) → Marks bytes ms → k < length ms → Counted (bits_of bytes) m → Marks bytes (set ms k m)
marks-kept k m old h t = record { counted = λ j l. search rules }

pub marks-none : (bytes : List ℕ) (ms : List Mark) → ((k : ℕ) → get_or ms k none ≡ none) → Marks bytes ms
unfolding sum
marks-none bytes ms h = record { counted = λ k l. rw (h k) (record { in_order = omega arith; ones_are = refl }) }
