-- Each turn is a turn of `answer`, at the layer where the fetch stands. The marks stay true, and are no matter to what is found.
use Rattle.std.proofs.Common.{◌≡◌, ◌+◌, ◌-◌, ◌*◌, ◌^◌, ◌<◌, ◌≤◌, length}
use Rattle.codes.specs.Bits.{bits_of}
use Rattle.codes.specs.Fetch.{within32, chunked_at}
use Rattle.codes.specs.Marks.{Marks}
use Rattle.codes.proofs.Turns.{answer}
use Rattle.codes.proofs.fetching.fetch_chunked.Given as goal

abbrev pub invariant-loop-layer : goal.invariant-loop-layer
invariant-loop-layer l =
    (l.layer.index < l.layer.count) × (l.layer.count ≤ l.end) × (l.layer.count * l.b ≤ l.layer.count * 8) × (l.layer.index * l.b + l.b ≤ l.layer.count * l.b)
    × (l.end ≡ length l.part.bytes.now * 8) × (l.layer.at ≤ l.end) × (l.shift ≤ 32) × (l.acc < 2 ^ 32)
    × (answer (bits_of l.part.bytes.now) l.b l.layer.at l.layer.count l.layer.index l.shift l.acc ≡ within32 (chunked_at l.b l.count l.index (bits_of l.part.bytes.now)))
    × (l.layer.mark ≤ l.layer.at * 2) × (length l.marks ≡ length l.initial.marks) × Marks l.part.bytes.now l.marks

abbrev pub decreases-loop-layer : goal.decreases-loop-layer
decreases-loop-layer l = l.end - l.layer.at
