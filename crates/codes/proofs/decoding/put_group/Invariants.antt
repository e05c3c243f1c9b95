-- Before each turn j of the K values are the part's, wherever x has the bits of all of them.
use Rattle.std.proofs.Common.{◌≡◌, ℕ, ◌+◌, ◌*◌, ◌%◌, ◌^◌, ◌≤◌, List, length, take, drop}
use Rattle.codes.specs.Bits.{number, bits_of}
use Rattle.codes.specs.Merging.{FixedTo}
use Rattle.codes.proofs.decoding.put_group.Given as goal

abbrev pub invariant-loop-j : goal.invariant-loop-j
invariant-loop-j g l =
    let k = g.row.K in
    (bytes : List ℕ) → l.i * l.w + k * l.w ≤ length bytes * 8 → l.x % 2 ^ (k * l.w) ≡ number (take (k * l.w) (drop (l.i * l.w) (bits_of bytes)))
    → FixedTo l.w bytes l.initial.values l.i → FixedTo l.w bytes l.values (l.i + l.j)
