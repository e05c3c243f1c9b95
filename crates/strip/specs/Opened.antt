-- What the functions behind opening answer.
use Rattle.std.specs.Prelude.{◌≡◌, List, ℕ, ◌^◌, ◌≤◌, ◌<◌, length, Result, Ok, Err}
use Rattle.tree.specs.declared.nodes.Levels.{Levels}
use Rattle.tree.specs.Outcomes.{Outcome, gives}
use Rattle.strip.specs.declared.open.Open.{Open}
use Rattle.strip.specs.declared.refusals.Refusal.{Refusal}
use Rattle.strip.specs.Refusals.{refusal}
use Rattle.strip.specs.Layout.{pins_of, parts_start}

-- the levels of a strip that is open
abbrev pub opened : Result Open Refusal → Outcome Levels
opened (Ok strip) = gives strip.tree.levels
opened (Err r) = refusal r

-- the pin count of a header that lies whole in the strip
abbrev pub HeaderFits : ℕ → List ℕ → Type 0
HeaderFits n s = (n ≡ pins_of s) × (n < 2 ^ 16) × (parts_start n ≤ length s)
