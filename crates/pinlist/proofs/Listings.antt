-- The text of any input: how long it is, which of the three it is, and how a listing goes on.
use mathlib.Core.Path.{◌≡◌, refl, sym, ap, ◌∙◌}
use mathlib.Core.List.{List, [], ◌∷◌, ◌++◌, append_assoc, append-nil}
use Prim.Native.Nat.{ℕ, zero, suc, ◌+◌, ◌-◌, ◌*◌, ◌^◌, ◌≤◌, ◌<◌}
use Prim.Native.Char.{code}
use native.Mathlib.Nat.{zero-add, add-zero, add-suc}
use native.Mathlib.Numerals.{add-one}
use native.Mathlib.Decide.{dec_lt}
use native.Mathlib.Omega.{arith}
use lib.ListN.{length, take, get_or, length-append, length-take}
use lib.Seq.{take_all}
use borrow.Author.Tests.{lt-ltb, le-ltb}
use Rattle.tree.specs.Outcomes.{Outcome, gives, refuses}
use Rattle.strip.specs.Calls.{check_of, plain_list}
use Rattle.pinlist.specs.Texts.{ascii, decimal, numeral, header, line, most_in_line, lines_from, listing, refusal_line, most_bytes, printed}
use Rattle.pinlist.specs.Promises.{PiecesJoin, ReadsEnough}
use Rattle.pinlist.proofs.Decimals.{decimal-few}
use Rattle.pinlist.proofs.Pieces.{piece-next}
use Rattle.pinlist.proofs.Accesses.{pins_are, pins-few}

-- ---- lengths

numeral-few : (x after : ℕ) → length (numeral x after) ≤ 21
unfolding numeral
numeral-few x after = rw (length-append (decimal x) (after ∷ [])) (omega (arith, decimal-few x))

pub line-few : (x y : ℕ) → length (line x y) ≤ most_in_line
unfolding line
line-few x y = rw (length-append (numeral x (code " ")) (numeral y (code "\n"))) (omega (arith, numeral-few x (code " "), numeral-few y (code "\n")))

pub header-few : (n : ℕ) → length (header n) ≤ 26
unfolding header
header-few n = omega (arith, numeral-few n (code "\n"))

pub refusal-few : (number carried : ℕ) → length (refusal_line number carried) ≤ 50
unfolding refusal_line
refusal-few number carried = omega (arith, line-few number carried)

pub lines-few : (xs : List ℕ) (i k : ℕ) → length (lines_from xs i k) ≤ most_in_line * k
unfolding lines_from
lines-few xs i zero = omega arith
lines-few xs i (suc k) =
    let next = line (i + k) (get_or xs (i + k) 0) in
    rw (length-append (lines_from xs i k) next) (omega (arith, lines-few xs i k, line-few (i + k) (get_or xs (i + k) 0)))

-- ---- more lines

pub line-more : (xs : List ℕ) (i k : ℕ) → lines_from xs i (k + 1) ≡ lines_from xs i k ++ line (i + k) (get_or xs (i + k) 0)
unfolding lines_from
line-more xs i k = rw (add-one k)

pub more-lines : PiecesJoin
unfolding lines_from
more-lines xs i k zero = rw (add-zero k) (sym (append-nil (lines_from xs i k)))
more-lines xs i k (suc m) =
    let e : i + (k + m) ≡ i + k + m = omega arith in
    let last = line (i + k + m) (get_or xs (i + k + m) 0) in
    rw (add-suc k m, more-lines xs i k m, e) (append_assoc (lines_from xs i k) (lines_from xs (i + k) m) last)

-- ---- which text

pub prints-too-long : (s : List ℕ) → most_bytes < length s → printed s ≡ ascii "too long\n"
unfolding printed
prints-too-long s h = rw (lt-ltb most_bytes (length s) h)

module _ (s : List ℕ) {n : ℕ} (pre : (length s ≤ most_bytes) × (check_of s ≡ gives n)) where
  pub prints-list : printed s ≡ listing (plain_list s)
  unfolding printed
  prints-list = rw (le-ltb most_bytes (length s) pre.0, pre.1)

module _ (s : List ℕ) {r c : ℕ} (pre : (length s ≤ most_bytes) × (check_of s ≡ refuses r c)) where
  pub prints-refusal : printed s ≡ refusal_line r c
  unfolding printed
  prints-refusal = rw (le-ltb most_bytes (length s) pre.0, pre.1)

pub printed-cut : ReadsEnough
printed-cut s = elim (dec_lt most_bytes (length s)) [
  | yes l ↦ prints-too-long (take (most_bytes + 1) s) (rw (length-take (most_bytes + 1) s) (omega arith)) ∙ sym (prints-too-long s l)
  | no l ↦ ap printed (take_all (most_bytes + 1) s (omega arith))
]

-- its length fits 64 bits
pub printed-short : (s : List ℕ) → length (printed s) < 2 ^ 64
printed-short s = elim (dec_lt most_bytes (length s)) [
  | yes l ↦ rw (prints-too-long s l) (omega arith)
  | no l ↦ go (omega arith) (check_of s) refl
]
  where
    go : length s ≤ most_bytes → (o : Outcome ℕ) → check_of s ≡ o → length (printed s) < 2 ^ 64
    go h (gives n) e =
        let xs = plain_list s in
        rw (prints-list s (h, e), length-append (header (length xs)) (lines_from xs 0 (length xs)))
        (omega (arith, header-few (length xs), lines-few xs 0 (length xs), pins_are s e, pins-few s e))
    go h (refuses r c) e = rw (prints-refusal s (h, e)) (omega (arith, refusal-few r c))

-- ---- a listing, piece by piece

-- up to position i
abbrev pub listed : List ℕ → ℕ → List ℕ
listed xs i = header (length xs) ++ lines_from xs 0 i

listed_more : (xs : List ℕ) (i k : ℕ) → listed xs (i + k) ≡ listed xs i ++ lines_from xs i k
listed_more xs i k = rw (more-lines xs 0 i k, zero-add i) (sym (append_assoc (header (length xs)) (lines_from xs 0 i) (lines_from xs i k)))

pub lines-written : (xs : List ℕ) (i k : ℕ) {done : ℕ} → done ≡ length (listed xs i) → done + length (lines_from xs i k) ≡ length (listed xs (i + k))
lines-written xs i k d = rw (listed_more xs i k, length-append (listed xs i) (lines_from xs i k), d)

module _ (s : List ℕ) {n : ℕ} (pre : (length s ≤ most_bytes) × (check_of s ≡ gives n)) where
  abbrev xs : List ℕ
  xs = plain_list s

  -- the header comes first
  pub header-next : take 0 (printed s) ++ header n ≡ take (0 + length (header n)) (printed s)
  header-next = piece-next [] (header n) (lines_from xs 0 (length xs)) (prints-list s pre ∙ rw (pins_are s pre.1)) refl

  pub header-written : 0 + length (header n) ≡ length (listed xs 0)
  unfolding lines_from
  header-written = rw (zero-add (length (header n)), append-nil (header (length xs)), pins_are s pre.1)

  -- the lines of k positions from i on come after those of the first i
  pub lines_next : (i k : ℕ) {done : ℕ} → i + k ≤ n → done ≡ length (listed xs i)
      → take done (printed s) ++ lines_from xs i k ≡ take (done + length (lines_from xs i k)) (printed s)
  lines_next i k l d =
      let left : length xs ≡ i + k + (length xs - (i + k)) = omega (arith, pins_are s pre.1) in
      piece-next (listed xs i) (lines_from xs i k) (lines_from xs (i + k) (length xs - (i + k)))
      (prints-list s pre ∙ ap (listed xs) left ∙ listed_more xs (i + k) (length xs - (i + k)) ∙ rw (listed_more xs i k)) (sym d)

  pub all-written : length (listed xs n) ≡ length (printed s)
  all-written = rw (pins_are s pre.1) (ap length (sym (prints-list s pre)))
