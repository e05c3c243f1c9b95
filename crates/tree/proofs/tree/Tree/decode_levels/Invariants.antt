-- Level by level: the entries before the next level hold what the levels so far are decoded to.
use Rattle.std.proofs.Common.{◌≡◌, ◌-◌, ◌^◌, take}
use Rattle.codes.specs.Decode.{all}
use Rattle.tree.specs.DecodedLevels.{decoded_to}
use Rattle.tree.proofs.tree.Tree.decode_levels.Given as goal

abbrev pub invariant-loop-depth : goal.invariant-loop-depth
invariant-loop-depth l = decoded_to l.self.levels l.self.bytes.now l.depth ≡ all (take (2 ^ l.depth - 1) l.values)
