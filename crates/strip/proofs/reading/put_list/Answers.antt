-- There is room, or the output is as it was.
use native.Mathlib.Omega.{arith}
use mathlib.Core.Path.{refl}
use lib.ListN.{length}
use borrow.Author.Tests.{lt-ltb, le-ltb}
use Rattle.tree.specs.Outcomes.{verdict, test}
use Rattle.strip.proofs.reading.put_list.Goals as goal

pub returns-then-out-n : goal.returns-then-out-n
unfolding verdict test
returns-then-out-n c = rw (lt-ltb (length c.args.out.now) (length c.args.times.now) (omega arith)) (record { result_value = refl; out_after = refl })

pub returns : goal.returns
unfolding verdict test
returns c = rw (le-ltb (length c.args.out.now) (length c.args.times.now) (omega arith)) (record { result_value = refl; out_after = rw c.copy_from_slice.ensures.after refl })
