use Rattle.std.proofs.Common.{◌≡◌, ℕ, suc, ◌+◌, ◌-◌, ◌^◌, ◌<◌, arith, w32, Fits}
use Rattle.codes.proofs.Groups.{group-whole, turn}
use Rattle.codes.proofs.decoding.merge_group.Goals as goal

in-32 : (x : ℕ) → x < 2 ^ 32 → Fits w32 x
in-32 x h = omega arith

pub read-chunks-requires-clause-w_in_bounds : goal.read-chunks-requires-clause-w_in_bounds
read-chunks-requires-clause-w_in_bounds c = omega (arith, group-whole c.requires.group)

pub overflow_sub-kept : goal.overflow_sub-kept
overflow_sub-kept c = (turn c.args.radix.range.1 c.loop-j.invariant.0 c.loop-j-test.true).some

pub offset_bounds-values-kept : goal.offset_bounds-values-kept
offset_bounds-values-kept c =
    let last = turn c.args.radix.range.1 c.loop-j.invariant.0 c.loop-j-test.true in
    omega (arith, c.loop-j.invariant.0.group)

pub bounds-values-kept : goal.bounds-values-kept
bounds-values-kept c =
    let last = turn c.args.radix.range.1 c.loop-j.invariant.0 c.loop-j-test.true in
    omega (arith, c.loop-j.invariant.0.group)

pub overflow_cast-values : goal.overflow_cast-values
overflow_cast-values c =
    let last = turn c.args.radix.range.1 c.loop-j.invariant.0 c.loop-j-test.true in
    rw (c.from.ensures, c.args.radix.scale, c.low_bits.ensures.1) (in-32 _ last.fits)

pub loop-j-preserved : goal.loop-j-preserved
loop-j-preserved c =
    let last = turn c.args.radix.range.1 c.loop-j.invariant.0 c.loop-j-test.true in
    let e : c.args.span.from + c.loop-j.j ≡ c.args.span.from + suc (c.loop-j.j - 1) = omega arith in
    rw (c.from.ensures, c.args.radix.scale, c.low_bits.ensures.1) (last.left, λ rests m. last.merges rests (rw e at (c.loop-j.invariant.1 rests m)))

pub returns : goal.returns
returns c =
    let e : c.args.span.from + c.loop-j.j ≡ c.args.span.from = omega arith in
    λ rests m. rw e at (c.loop-j.invariant.1 rests m)
