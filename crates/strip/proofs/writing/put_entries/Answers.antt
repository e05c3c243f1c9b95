use native.Mathlib.Omega.{arith}
use mathlib.Core.Path.{sym, ap, ◌∙◌}
use Prim.Native.Nat.{◌+◌, ◌*◌}
use Rattle.codes.specs.Lists.{replaced}
use Rattle.codes.proofs.Promises.{list-laws}
use Rattle.strip.specs.Image.{joined}
use Rattle.strip.specs.Written.{entry_in}
use Rattle.strip.proofs.Pieces.{entries_next}
use Rattle.strip.proofs.writing.put_entries.Goals as goal

pub loop-d-init : goal.loop-d-init
unfolding joined
loop-d-init c = (c.height-d-end.ensures, sym (list-laws.replaced_none c.args.out.now 7))

pub loop-d-preserved : goal.loop-d-preserved
loop-d-preserved c = (
  c.loop-d.invariant.0,
  c.put_entry.ensures ∙ ap (λ o. replaced o (7 + 5 * c.loop-d.d) (entry_in c.args.levels c.loop-d.d)) c.loop-d.invariant.1
      ∙ entries_next c.args.levels c.args.out.now c.loop-d.d (omega arith),
)
