-- What it is for a strip to be open.
use Rattle.std.specs.Prelude.{◌≡◌}
use Rattle.codes.specs.Codes.{Within}
use Rattle.tree.specs.declared.tree.Tree.{Tree}
use Rattle.tree.specs.Outcomes.{gives}
use Rattle.strip.specs.Opening.{opening}

-- a tree whose bytes are a strip that is open, with these levels
abbrev pub IsOpen : Tree → Type 0
IsOpen tree = (opening tree.bytes.now ≡ gives tree.levels) × Within 8 tree.bytes.now
