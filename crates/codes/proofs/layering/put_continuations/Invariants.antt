-- The continuation bits of the values before those that are left are written.
use Rattle.std.proofs.Common.{◌≡◌, ℕ, List, ◌++◌, map}
use Rattle.std.specs.Slice.Iter.{chunks_rest, chunks_size}
use Rattle.codes.specs.Codes.{continuation}
use Rattle.codes.specs.Written.{Wrote}
use Rattle.codes.proofs.layering.put_continuations.Given as goal

abbrev pub invariant-loop-group : goal.invariant-loop-group
invariant-loop-group l =
    (done : List ℕ) × (done ++ chunks_rest l.group-iterator ≡ l.values) × (chunks_size l.group-iterator ≡ 32)
    × Wrote l.initial.out l.initial.p l.out l.p (map (continuation l.radix.bits) done)
