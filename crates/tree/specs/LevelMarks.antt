-- The marks of all levels, in one list: for each of 16 levels as many.
use Rattle.std.specs.Prelude.{List, ℕ, ◌*◌, ◌/◌, ◌<◌, length, take, drop}
use Rattle.codes.specs.declared.marking.Mark.{Mark}
use Rattle.codes.specs.Marks.{Marks}
use Rattle.tree.specs.Levels.{part_of}

-- those of the level below d others
abbrev pub marks_of : List Mark → ℕ → List Mark
marks_of ms d = take (length ms / 16) (drop (d * (length ms / 16)) ms)

-- the marks of each level are true of its part
pub record LevelMarks (ends s : List ℕ) (ms : List Mark) : Type 0 where
  pub marks : (d : ℕ) → d < 16 → Marks (part_of ends s d) (marks_of ms d)
