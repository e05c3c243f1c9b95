-- What is shown of the text besides the contracts. proofs/Decimals proves `FewestDigits` as `fewest-digits`, proofs/Accesses
-- `ListsByAccess` as `access-time`, and proofs/Listings the other two as `more-lines` and `printed-cut`.
use Rattle.std.specs.Prelude.{◌≡◌, List, ◌++◌, ℕ, ◌+◌, ◌^◌, ◌<◌, length, take, get_or}
use Rattle.io.specs.Digits.{IsDigitCount}
use Rattle.tree.specs.Outcomes.{gives}
use Rattle.tree.specs.Walks.{found, toward}
use Rattle.strip.specs.Calls.{access_of, plain_list}
use Rattle.strip.specs.Demands.{Accepted}
use Rattle.pinlist.specs.Texts.{places_in, lines_from, most_bytes, printed}

-- 1. The digits of a number of 64 bits are the fewest that hold it.
abbrev pub FewestDigits : Type 0
FewestDigits = (n : ℕ) → n < 2 ^ 64 → IsDigitCount 10 1 n (places_in 19 n)

-- 2. The times that are printed are those of access: on an accepted strip none is refused, and access at i gives time i of the plain list.
abbrev pub ListsByAccess : Type 0
ListsByAccess =
    (s : List ℕ) → Accepted s → (i : ℕ) → i < length (plain_list s)
    → access_of s i ≡ gives (found (get_or (plain_list s) i 0) (length (toward (length (plain_list s)) i)))

-- 3. The lines of k positions and those of m more are the lines of k + m positions. So pieces one after the other make a listing.
abbrev pub PiecesJoin : Type 0
PiecesJoin = (xs : List ℕ) (i k m : ℕ) → lines_from xs i (k + m) ≡ lines_from xs i k ++ lines_from xs (i + k) m

-- 4. One byte more than the most of a strip is enough to read: it tells that the input is longer.
abbrev pub ReadsEnough : Type 0
ReadsEnough = (s : List ℕ) → printed (take (most_bytes + 1) s) ≡ printed s
