-- Each turn merges the last value that is left, so the group before it is still to be merged, with the words shifted past it.
use Rattle.std.proofs.Common.{◌+◌, length}
use Rattle.codes.specs.Merging.{Merges}
use Rattle.codes.proofs.Groups.{Left}
use Rattle.codes.proofs.decoding.merge_group.Given as goal

abbrev pub invariant-loop-j : goal.invariant-loop-j
invariant-loop-j l =
    let n = length l.initial.values in
    Left l.b l.part.bytes.now l.values l.at n l.from l.j l.kept l.mores l.chunks
    × Merges l.b l.part.bytes.now l.at n l.initial.values (l.from + l.k) l.initial.kept l.values (l.from + l.j) l.kept
