-- The kind of the code decides 8, and of a fixed one the bytes that its values need decide 23.
use native.Mathlib.Omega.{arith}
use mathlib.Core.Path.{◌≡◌, sym}
use Prim.Native.Nat.{◌*◌}
use native.Mathlib.Nat.{mul-le-mul_left}
use borrow.Author.Tests.{eq-eqb}
use Rattle.codes.specs.declared.kinds.Kind.TheVariants.{Fixed}
use Rattle.codes.specs.Bits.{bytes_for}
use Rattle.codes.specs.Codes.{kind_of}
use Rattle.codes.proofs.Promises.{code-known}
use Rattle.strip.proofs.Openings.{entry-refused, entry-other-length, entry-passes}
use Rattle.strip.proofs.opening.test_entry.Goals as goal

pub overflow_mul-count : goal.overflow_mul-count
overflow_mul-count c =
    let fixed-is : kind_of c.args.code ≡ Fixed c.in-Fixed.w = sym c.in-Fixed.ensures in
    omega (arith, mul-le-mul_left c.args.count (code-known _ _ fixed-is).0)

pub overflow_add-count : goal.overflow_add-count
overflow_add-count c =
    let fixed-is : kind_of c.args.code ≡ Fixed c.in-Fixed.w = sym c.in-Fixed.ensures in
    omega (arith, mul-le-mul_left c.args.count (code-known _ _ fixed-is).0)

pub returns-then-bytes-count : goal.returns-then-bytes-count
returns-then-bytes-count c =
    let fixed-is : kind_of c.args.code ≡ Fixed c.in-Fixed.w = sym c.in-Fixed.ensures in
    sym (entry-passes c.args.level c.args.count c.args.code c.args.bytes (tt {0})
    (rw fixed-is (eq-eqb c.args.bytes (bytes_for (c.args.count * c.in-Fixed.w)) (omega arith))))

pub returns-else-bytes-count : goal.returns-else-bytes-count
returns-else-bytes-count c =
    let fixed-is : kind_of c.args.code ≡ Fixed c.in-Fixed.w = sym c.in-Fixed.ensures in
    sym (entry-other-length c.args.level c.args.count c.args.code c.args.bytes (tt {0}) _ fixed-is (λ e. omega arith))

pub returns-in-Chunked : goal.returns-in-Chunked
returns-in-Chunked c = sym (entry-passes c.args.level c.args.count c.args.code c.args.bytes (tt {0}) (rw (sym c.in-Chunked.ensures)))

pub returns-in-Refused : goal.returns-in-Refused
returns-in-Refused c = sym (entry-refused c.args.level c.args.count c.args.code c.args.bytes (tt {0}) (sym c.in-Refused.ensures))
