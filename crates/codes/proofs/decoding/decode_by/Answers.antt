use Rattle.std.proofs.Common.{ℕ, ◌+◌, ◌-◌, ◌*◌, ◌/◌, ◌<◌, ◌≤◌, mul-le-mul_right, div-mul-le_self, arith}
use Rattle.codes.proofs.decoding.decode_by.Goals as goal

-- the group's values are among the n
inside : (from group k n w : ℕ) → from ≤ n → group < (n - from) / k → (from + group * k) * w + k * w ≤ n * w
inside from group k n w h l =
    let some : group + 1 ≤ (n - from) / k = omega arith in
    let all : from + group * k + k ≤ n = omega (arith, mul-le-mul_right k some, div-mul-le_self (n - from) k) in
    omega (arith, mul-le-mul_right w all)

pub overflow_mul-i-in-loop-group : goal.overflow_mul-i-in-loop-group
overflow_mul-i-in-loop-group g c = omega (arith, inside c.args.from c.loop-group.group g.row.K _ c.args.w c.requires.3 c.loop-group-test.true)

pub read_word-requires-clause-w_in_bounds : goal.read_word-requires-clause-w_in_bounds
read_word-requires-clause-w_in_bounds g c = omega (arith, inside c.args.from c.loop-group.group g.row.K _ c.args.w c.requires.3 c.loop-group-test.true)

pub loop-group-preserved : goal.loop-group-preserved
loop-group-preserved g c = λ q h.
    let whole = inside c.args.from c.loop-group.group g.row.K _ c.args.w c.requires.3 c.loop-group-test.true in
    c.put_group.ensures c.args.part.now (omega arith) c.read_word.ensures c.loop-group.invariant q (omega arith)
