-- The bytes of a strip: its header, and where its levels lie.
use Rattle.std.specs.Prelude.{List, [], ◌∷◌, ◌++◌, ℕ, zero, suc, ◌+◌, ◌*◌, ◌/◌, ◌%◌, ◌^◌, get_or, set, replicate}
use Rattle.tree.specs.declared.nodes.Levels.{Levels}
use Rattle.tree.specs.Shape.{height}

-- the greatest pin count and the greatest height
abbrev pub max_pins : ℕ
max_pins = 65535

abbrev pub max_height : ℕ
max_height = 16

-- a number of bytes that is enough for any strip: `RoomEnough` in Promises
abbrev pub max_bytes : ℕ
max_bytes = 7 + 5 * max_height + 4 * max_pins

-- ---- multi-byte numbers have the high byte first

abbrev pub two_bytes : ℕ → List ℕ
two_bytes x = (x / 2 ^ 8 % 2 ^ 8) ∷ (x % 2 ^ 8) ∷ []

abbrev pub four_bytes : ℕ → List ℕ
four_bytes x = two_bytes (x / 2 ^ 16) ++ two_bytes x

-- the number in the two or four bytes from byte a on
abbrev pub two_at : List ℕ → ℕ → ℕ
two_at s a = get_or s a 0 * 2 ^ 8 + get_or s (a + 1) 0

abbrev pub four_at : List ℕ → ℕ → ℕ
four_at s a = two_at s a * 2 ^ 16 + two_at s (a + 2)

-- ---- the header

-- `PIN`
abbrev pub mark : List ℕ
mark = 0x50 ∷ 0x49 ∷ 0x4e ∷ []

abbrev pub version : ℕ
version = 1

-- bytes 0..2 are the mark, 3..4 the version, and 5..6 n
abbrev pub header : ℕ → List ℕ
header n = mark ++ two_bytes version ++ two_bytes n

abbrev pub pins_of : List ℕ → ℕ
pins_of s = two_at s 5

-- ---- the level entries

-- per level, one code byte and four bytes with the level part's length in bytes
abbrev pub entry : ℕ → ℕ → List ℕ
entry code bytes = code ∷ four_bytes bytes

-- those of the level below d others, which is level d + 1
abbrev pub code_at : List ℕ → ℕ → ℕ
code_at s d = get_or s (7 + 5 * d) 0

abbrev pub length_at : List ℕ → ℕ → ℕ
length_at s d = four_at s (8 + 5 * d)

-- then the parts in order
abbrev pub parts_start : ℕ → ℕ
parts_start n = 7 + 5 * height n

-- ---- where the levels lie

-- the levels of n pins before any is entered
abbrev pub no_levels : ℕ → Levels
no_levels n = record { pins = n; codes = replicate max_height 0; ends = set (replicate (max_height + 1) 0) 0 (parts_start n) }

-- where d parts of these lengths end, one after the other
unfoldable pub end_after : ℕ → (ℕ → ℕ) → ℕ → ℕ
end_after start len zero = start
end_after start len (suc d) = end_after start len d + len d

-- a list of so many numbers: the first d of a sequence, and 0 for the others
unfoldable pub filled : ℕ → (ℕ → ℕ) → ℕ → List ℕ
filled count f zero = replicate count 0
filled count f (suc d) = set (filled count f d) d (f d)

-- n pins with the first d levels entered, whose codes and lengths these are; before the ends stands where the first part starts
abbrev pub entered : ℕ → (ℕ → ℕ) → (ℕ → ℕ) → ℕ → Levels
entered n code len d = record { pins = n; codes = filled max_height code d; ends = filled (max_height + 1) (end_after (parts_start n) len) (suc d) }

-- all of them
unfoldable pub laid_out : ℕ → (ℕ → ℕ) → (ℕ → ℕ) → Levels
laid_out n code len = entered n code len (height n)
