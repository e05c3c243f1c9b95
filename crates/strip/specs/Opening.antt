-- What opening tests, and the levels that it finds.
use Rattle.std.specs.Prelude.{Bool, true, false, not, ◌&&◌, List, [], ◌∷◌, ◌++◌, ℕ, zero, suc, eqb, ltb, length, get_or}
use Rattle.codes.specs.declared.kinds.Kind.{Kind}
use Rattle.codes.specs.declared.kinds.Kind.TheVariants.{Fixed, Chunked, Refused}
use Rattle.codes.specs.Codes.{kind_of, is_exact}
use Rattle.tree.specs.declared.nodes.Levels.{Levels}
use Rattle.tree.specs.Shape.{height}
use Rattle.tree.specs.Levels.{count_of}
use Rattle.tree.specs.Outcomes.{Outcome, Test, test, verdict}
use Rattle.strip.specs.Layout.{mark, version, two_at, pins_of, code_at, length_at, parts_start, end_after, laid_out}

-- bytes 0..2 are the mark
abbrev pub has_mark : List ℕ → Bool
has_mark s = eqb (get_or s 0 0) (get_or mark 0 0) && eqb (get_or s 1 0) (get_or mark 1 0) && eqb (get_or s 2 0) (get_or mark 2 0)

-- 5 (under 7 bytes), 6, 7, 1, 5 (under 7 + 5h)
abbrev pub header_tests : List ℕ → List Test
header_tests s =
    test (ltb (length s) 7) 5 0
    ∷ test (not (has_mark s)) 6 0
    ∷ test (not (eqb (two_at s 3) version)) 7 0
    ∷ test (eqb (pins_of s) 0) 1 0
    ∷ test (ltb (length s) (parts_start (pins_of s))) 5 0
    ∷ []

-- a byte that is no level code
abbrev pub is_refused : Kind → Bool
is_refused (Fixed w) = false
is_refused (Chunked b) = false
is_refused Refused = true

-- The tests of a level of so many values, by its entry: 8, and directly after it 23, a fixed level without exactly the fewest bytes for its
-- width and number of values. Of a refused code the second would hold too, but the first comes before it.
abbrev pub entry_tests : ℕ → ℕ → ℕ → ℕ → List Test
entry_tests level count code bytes =
    test (is_refused (kind_of code)) 8 level
    ∷ test (not (is_exact (kind_of code) count bytes)) 23 level
    ∷ []

-- those of the level below d others
abbrev pub entry_tests_at : List ℕ → ℕ → List Test
entry_tests_at s d = entry_tests (suc d) (count_of (pins_of s) d) (code_at s d) (length_at s d)

-- of each of k levels, from the one below d others on
unfoldable pub entries_tests : List ℕ → ℕ → ℕ → List Test
entries_tests s zero d = []
entries_tests s (suc k) d = entry_tests_at s d ++ entries_tests s k (suc d)

-- 7 + 5h and the parts' lengths
abbrev pub length_by_entries : List ℕ → ℕ
length_by_entries s = end_after (parts_start (pins_of s)) (length_at s) (height (pins_of s))

abbrev pub length_test : List ℕ → Test
length_test s = test (not (eqb (length_by_entries s) (length s))) 13 0

-- 8 and 23 level by level, 13
abbrev pub level_tests : List ℕ → List Test
level_tests s = entries_tests s (height (pins_of s)) 0 ++ (length_test s ∷ [])

-- the levels that the header and the level entries tell
abbrev pub levels_in : List ℕ → Levels
levels_in s = laid_out (pins_of s) (code_at s) (length_at s)

-- opening, done first by every reading call: the levels, or the first refusal in this order
unfoldable pub opening : List ℕ → Outcome Levels
opening s = verdict (header_tests s ++ level_tests s) (levels_in s)
