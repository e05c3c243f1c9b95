use Rattle.std.proofs.Common.{sym, ◌∙◌, arith}
use Rattle.codes.proofs.Best.{best-first, best-next}
use Rattle.codes.proofs.choosing.Widths.best_chunked.Goals as goal

pub loop-b-init : goal.loop-b-init
loop-b-init c = λ vs h e. c.chunked-best.ensures vs h e ∙ sym (best-first vs)

pub loop-b-preserved : goal.loop-b-preserved
loop-b-preserved c = λ vs h e. rw (c.better-best.ensures, c.loop-b.invariant vs h e, c.chunked.ensures vs h e) (sym (best-next c.loop-b.b vs (omega arith)))
