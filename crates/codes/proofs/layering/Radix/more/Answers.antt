-- v is below 2^b just where v / 2^b is 0, and then no chunk follows the lowest.
use Rattle.std.proofs.Common.{◌/◌, ◌^◌, ◌<◌, arith, eq-eqb}
use native.Mathlib.Nat.{div-eq_of_lt}
use Rattle.codes.proofs.layering.Radix.more.Goals as goal

pub returns-then-from-self : goal.returns-then-from-self
returns-then-from-self c =
    let l : c.args.v < 2 ^ c.args.self.bits = omega arith in
    rw (eq-eqb (c.args.v / 2 ^ c.args.self.bits) 0 (div-eq_of_lt l)) (omega arith)
