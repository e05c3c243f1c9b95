-- On an accepted strip access gives time i and is not refused.
use mathlib.Core.Path.{refl, sym, ◌∙◌}
use Rattle.pinlist.proofs.Accesses.{access-time, answer-given}
use Rattle.pinlist.proofs.lines.time_at.Goals as goal

pub unwrap-requires : goal.unwrap-requires
unwrap-requires c =
    let access-is = answer-given c.access.result (c.access.ensures ∙ access-time c.args.s.now c.requires.0 c.args.i c.requires.1) in
    rw access-is refl

pub returns : goal.returns
returns c =
    let access-is = answer-given c.access.result (c.access.ensures ∙ access-time c.args.s.now c.requires.0 c.args.i c.requires.1) in
    let same = sym c.unwrap.ensures ∙ access-is in
    cc
