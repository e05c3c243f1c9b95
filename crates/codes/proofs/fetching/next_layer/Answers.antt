-- The ones before the value and those of the whole layer, each counted from the layer's first bit.
use Rattle.std.proofs.Common.{◌≡◌, ◌-◌, arith}
use Rattle.codes.specs.Bits.{sum}
use Rattle.codes.proofs.fetching.next_layer.Goals as goal

pub count_on-before-requires : goal.count_on-before-requires
unfolding sum
count_on-before-requires c =
    let none : c.args.layer.at - c.args.layer.at ≡ 0 = omega arith in
    record { counted = (record { in_order = omega arith; ones_are = rw none }, omega arith, omega arith); marks = c.requires.marks }
