use Rattle.codes.proofs.Best.{size-fixed}
use Rattle.codes.proofs.Widths.{widest-le}
use Rattle.codes.proofs.choosing.Widths.fixed.Goals as goal

pub returns : goal.returns
returns c = λ vs h e. rw (c.widest-w.ensures.1 vs h, ← e, size-fixed _ vs (widest-le vs))
