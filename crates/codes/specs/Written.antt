-- Bits written one after the other.
use Rattle.std.specs.Prelude.{◌≡◌, ℕ, ◌+◌, ◌*◌, ◌≤◌, List, ◌++◌, length, take, drop}
use Rattle.codes.specs.declared.writing.Writer.{Writer}
use Rattle.codes.specs.Bits.{bits, bits_of}

-- the bits written so far: whole bytes, and the bits that wait for theirs
abbrev pub written : List ℕ → Writer → List ℕ
written out p = bits_of (take p.at out) ++ bits p.have p.acc

-- from bytes o and writer p on, the bits bs were written; bytes from the new place on are as they were
pub record Wrote (o : List ℕ) (p : Writer) (r : List ℕ) (q : Writer) (bs : List ℕ) : Type 0 where
  pub spelled : written r q ≡ written o p ++ bs
  pub later : drop q.at r ≡ drop q.at o
  pub kept : length r ≡ length o
  pub place : q.at * 8 + q.have ≡ p.at * 8 + p.have + length bs
  pub onward : p.at ≤ q.at
