-- Each turn merges the last group that is left; where none is left, the layer is merged.
use Rattle.std.proofs.Common.{◌≡◌, ◌*◌, ◌≤◌, min, length, take}
use Rattle.codes.specs.Merging.{continuations_at, chunks_at, Merging}
use Rattle.codes.proofs.decoding.merge.Given as goal

abbrev pub invariant-loop-group : goal.invariant-loop-group
invariant-loop-group l =
    let b = l.radix.bits in
    (length l.values ≡ l.n) × (l.kept ≤ l.rests)
    × Merging b (continuations_at l.part.bytes.now l.at l.n) (chunks_at l.part.bytes.now l.at l.n) (take l.rests l.initial.values) l.values (min l.n (l.group * l.room)) l.kept
