-- As for `Tune::pack`, the measure is what arrays for the longest list have more than those now taken.
use Prim.Native.Nat.{◌-◌}
use Rattle.strip.specs.Layout.{max_pins}
use Rattle.strip.proofs.reading.+in_arrays.Given as goal

abbrev pub decreases-in_arrays : goal.decreases-in_arrays
decreases-in_arrays g l = max_pins - l.most
