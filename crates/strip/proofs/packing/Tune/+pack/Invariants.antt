-- The measure is what arrays for the longest list have more than those now taken: it falls to 0 where a list has more pins than these.
use Prim.Native.Nat.{◌-◌}
use Rattle.strip.specs.Layout.{max_pins}
use Rattle.strip.proofs.packing.Tune.+pack.Given as goal

abbrev pub decreases-pack : goal.decreases-pack
decreases-pack l = max_pins - l.most
