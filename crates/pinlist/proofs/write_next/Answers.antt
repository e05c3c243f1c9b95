-- What is written then begins the text, whose length fits 64 bits.
use native.Mathlib.Omega.{arith}
use mathlib.Core.Path.{ap}
use lib.ListN.{length, length-append, length-take}
use Rattle.pinlist.proofs.Listings.{printed-short}
use Rattle.pinlist.proofs.write_next.Goals as goal

pub overflow_add-result : goal.overflow_add-result
overflow_add-result c = omega (arith, printed-short c.args.s.now, simp (length-append, length-take) at (ap length c.requires))
