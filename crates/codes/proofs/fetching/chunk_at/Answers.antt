-- What `read` gives is below 2^b, and b + shift is at most 40, so the shift loses no bit.
use Rattle.std.proofs.Common.{◌+◌, lt_of_lt_of_le, arith, pow_mono, shl_lt, shl_exact}
use Rattle.codes.proofs.fetching.chunk_at.Goals as goal

pub returns : goal.returns
returns c =
    let lt = c.read.ensures.0 in
    let small = lt_of_lt_of_le (shl_lt c.args.b c.args.shift lt) (pow_mono {i = c.args.b + c.args.shift} {j = 40} (omega arith)) in
    rw (shl_exact c.args.b c.args.shift 64 lt (omega arith)) (small, rw c.read.ensures.1)
