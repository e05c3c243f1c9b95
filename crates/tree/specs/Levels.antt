-- The levels of a tree in the bytes of a strip.
use Rattle.std.specs.Prelude.{◌≡◌, true, List, ℕ, suc, ◌+◌, ◌-◌, ◌^◌, ◌≤◌, ◌<◌, min, length, take, drop, get_or}
use Rattle.codes.specs.declared.kinds.Kind.TheVariants.{Chunked}
use Rattle.codes.specs.Codes.{kind_of, part, is_exact, Holds}
use Rattle.codes.specs.Fetch.{Fetched, fetched}
use Rattle.tree.specs.declared.nodes.Levels.{Levels}
use Rattle.tree.specs.Shape.{height}
use Rattle.tree.specs.Stored.{stored_values}

-- A level goes by the number d of levels above it, from 0. It is 01's level L = d + 1: "level L, from 1, holds nodes 2 ^ (L - 1) to
-- min(n, 2 ^ L - 1)". So it has this many of n nodes.
abbrev pub count_of : ℕ → ℕ → ℕ
count_of n d = suc (min n (2 ^ suc d - 1)) - 2 ^ d

-- the levels above node v
abbrev pub level_of : ℕ → ℕ
level_of v = height v - 1

-- levels by their pin count, codes and ends
abbrev pub levels_of : ℕ → List ℕ → List ℕ → Levels
levels_of n codes ends = record { pins = n; codes = codes; ends = ends }

-- the code of a level
abbrev pub code_of : Levels → ℕ → ℕ
code_of at d = get_or at.codes d 0

-- its part, by the levels' ends
abbrev pub part_of : List ℕ → List ℕ → ℕ → List ℕ
part_of ends s d = take (get_or ends (d + 1) 0 - get_or ends d 0) (drop (get_or ends d 0) s)

-- what is fetched for node v, from the part of its level alone
unfoldable pub fetched_at : Levels → List ℕ → ℕ → Fetched
fetched_at at s v =
    let d = level_of v in
    fetched (code_of at d) (count_of at.pins d) (v - 2 ^ d) (part_of at.ends s d)

-- The levels lie one after the other in the bytes, each shorter than 2 ^ 32. A fixed level's part is exactly as long as its values need, and
-- no code is refused.
pub record Fits (at : Levels) (s : List ℕ) : Type 0 where
  pub height_fits : height at.pins ≤ 16
  pub in_order : (d : ℕ) → d < height at.pins → get_or at.ends d 0 ≤ get_or at.ends (d + 1) 0
  pub inside : (d : ℕ) → d < height at.pins → get_or at.ends (d + 1) 0 ≤ length s
  pub short : (d : ℕ) → d < height at.pins → get_or at.ends (d + 1) 0 - get_or at.ends d 0 < 2 ^ 32
  pub exact : (d : ℕ) → d < height at.pins → is_exact (kind_of (code_of at d)) (count_of at.pins d) (length (part_of at.ends s d)) ≡ true

-- node v is one of 1 to n, on a chunked level
abbrev pub OnChunked : Levels → ℕ → Type 0
OnChunked at v = (1 ≤ v) × (v ≤ at.pins) × ((b : ℕ) × (kind_of (code_of at (level_of v)) ≡ Chunked b))

-- of the values in node order, those of a level
abbrev pub level_values : List ℕ → ℕ → List ℕ
level_values values d = take (count_of (length values) d) (drop (2 ^ d - 1) values)

-- each level holds what the list's tree stores on it, in some code that can hold it
pub record Stores (at : Levels) (s : List ℕ) (xs : List ℕ) : Type 0 where
  pub pins_are : at.pins ≡ length xs
  pub holds : (d : ℕ) → d < height (length xs) → Holds (kind_of (code_of at d)) (level_values (stored_values xs) d)
  pub parts_are : (d : ℕ) → d < height (length xs) → part_of at.ends s d ≡ part (code_of at d) (level_values (stored_values xs) d)
