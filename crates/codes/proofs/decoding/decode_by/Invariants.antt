-- Before each turn the values before the group's are the part's, and one read has the group's.
use Rattle.std.proofs.Common.{◌+◌, ◌*◌}
use Rattle.codes.specs.Merging.{FixedTo}
use Rattle.codes.proofs.decoding.decode_by.Given as goal

abbrev pub invariant-loop-group : goal.invariant-loop-group
invariant-loop-group g l = FixedTo l.w l.part l.values (l.from + l.group * g.row.K)
