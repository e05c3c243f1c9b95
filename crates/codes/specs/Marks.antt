-- Marks: bits of a level's part that were counted. They are there for speed alone: what a fetch finds is the same with any marks.
use Rattle.std.specs.Prelude.{◌≡◌, ℕ, ◌-◌, ◌<◌, ◌≤◌, List, length, take, drop, get_or}
use Rattle.codes.specs.declared.marking.Mark.{Mark}
use Rattle.codes.specs.Bits.{sum, bits_of}

-- a mark is true: of the bits from its `from` up to its `to`, as many are 1 as it says
pub record Counted (bs : List ℕ) (m : Mark) : Type 0 where
  pub in_order : m.from ≤ m.to
  pub ones_are : m.ones ≡ sum (take (m.to - m.from) (drop m.from bs))

-- the mark of no bits
abbrev pub none : Mark
none = record { from = 0; to = 0; ones = 0 }

-- every mark of a list is true of a part
pub record Marks (bytes : List ℕ) (ms : List Mark) : Type 0 where
  pub counted : (k : ℕ) → k < length ms → Counted (bits_of bytes) (get_or ms k none)
