-- After i turns `count` has the first i words of each of the fifteen streams. A stream has `turns` words, so the next begins where it ends,
-- and together they are all the words.
use Rattle.std.proofs.Common.{◌≡◌, ◌*◌, ◌≤◌}
use Rattle.codes.specs.Streams.{in_streams}
use Rattle.codes.proofs.counting.ones_in_streams.Given as goal

abbrev pub invariant-loop-i : goal.invariant-loop-i
invariant-loop-i l = (l.count ≤ l.i * 960) × (l.count ≡ in_streams 15 l.i l.part.bytes.now l.first l.step)
