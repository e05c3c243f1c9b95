-- The first position with a near time is where a gap is too short or a time is lower.
use Rattle.std.proofs.Common.{arith, ◌-◌, length, get_or, lt-ltb, le-ltb}
use Rattle.strip.proofs.Gaps.{near-positive}
use Rattle.strip.proofs.reading.gap_or.Goals as goal

pub returns-then-i-times : goal.returns-then-i-times
returns-then-i-times c =
    let xs = c.args.times.now in
    rw (← c.first_near-i.ensures, le-ltb c.first_near-i.result (length xs) (omega arith))

pub overflow_sub-i : goal.overflow_sub-i
overflow_sub-i c = omega (arith, near-positive c.args.r c.args.times.now (omega arith))

pub returns-then-times-i : goal.returns-then-times-i
returns-then-times-i c =
    let xs = c.args.times.now in
    let i = c.first_near-i.result in
    rw (← c.first_near-i.ensures, lt-ltb i (length xs) (omega arith), lt-ltb (get_or xs i 0) (get_or xs (i - 1) 0) (omega arith))

pub returns : goal.returns
returns c =
    let xs = c.args.times.now in
    let i = c.first_near-i.result in
    rw (← c.first_near-i.ensures, lt-ltb i (length xs) (omega arith), le-ltb (get_or xs i 0) (get_or xs (i - 1) 0) (omega arith))
