-- After k turns the lines of k positions from `first` on stand at the front. Where there may be no room for one more, k is not 0, since the
-- text is longer than a line.
use Rattle.std.proofs.Common.{◌≡◌, ◌≤◌, length}
use Rattle.codes.specs.Lists.{replaced}
use Rattle.strip.specs.Calls.{plain_list}
use Rattle.pinlist.specs.Texts.{lines_from}
use Rattle.pinlist.proofs.lines.put_times.Given as goal

abbrev pub invariant-loop-k : goal.invariant-loop-k
invariant-loop-k l =
    (l.end ≤ length l.text) × (l.end ≡ length (lines_from (plain_list l.s) l.first l.k))
    × (l.text ≡ replaced l.initial.text 0 (lines_from (plain_list l.s) l.first l.k))
