-- What the functions behind pack write.
use Rattle.std.specs.Prelude.{List, ℕ, ◌+◌, ◌-◌, length, get_or}
use Rattle.tree.specs.declared.nodes.Levels.{Levels}
use Rattle.tree.specs.Outcomes.{Outcome}
use Rattle.strip.specs.Layout.{entry}
use Rattle.strip.specs.Image.{image}
use Rattle.strip.specs.Calls.{room_for, written}

-- the code byte and the part's length of the level below d others
abbrev pub entry_in : Levels → ℕ → List ℕ
entry_in levels d = entry (get_or levels.codes d 0) (get_or levels.ends (d + 1) 0 - get_or levels.ends d 0)

-- the image's length in bytes, where there is room for it
abbrev pub pack_in : List ℕ → ℕ → Outcome ℕ
pack_in xs room = room_for room (length (image xs))

-- and the output after it
abbrev pub pack_over : List ℕ → List ℕ → List ℕ
pack_over xs out = written (pack_in xs (length out)) (image xs) out
