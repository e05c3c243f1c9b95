-- The right child is merged first, at the sum, and then the left one by `merge_left`.
use Rattle.std.proofs.Common.{arith}
use Rattle.tree.proofs.LevelMerges.{merges-right}
use Rattle.tree.proofs.merging.merge_pair.Goals as goal

pub returns : goal.returns
returns c = λ e before above odd full room w.
    let right = merges-right c.args.stored.now c.args.times.now c.args.q c.requires.0 (omega arith) before above odd full room w in
    c.merge_left.ensures e before above odd full room (rw (← c.in_ok-time.ensures.1) at right)
