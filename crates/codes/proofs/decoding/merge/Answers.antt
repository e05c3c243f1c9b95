use Rattle.std.proofs.Common.{◌≡◌, ℕ, zero, suc, ◌+◌, ◌-◌, ◌*◌, ◌/◌, ◌%◌, ◌<◌, ◌≤◌, min, length, take, mul-le-mul_right, le-div_iff_mul-le, arith, get_or-take}
use Rattle.std.proofs.lemmas.Grind.{div_ceil_times}
use Rattle.codes.specs.Merging.{continuations_at, chunks_at}
use Rattle.codes.proofs.Bits.{sum-take-add}
use Rattle.codes.proofs.Merges.{length-continuations, merging-last}
use Rattle.codes.proofs.decoding.merge.Goals as goal

-- one value at least
some : (b : ℕ) → (1 ≤ b) × (b ≤ 8) → 0 < 56 / b
some b h = (le-div_iff_mul-le h.0).1 (omega arith)

-- the group before the place where those after it begin
ends : (n room group : ℕ) → 0 < room → 0 < group → group ≤ n / room + min 1 (n % room)
    → let from = (group - 1) * room in (from < n) × (from + min room (n - from) ≡ min n (group * room))
ends n room zero one left few = absurd (omega arith)
ends n room (suc j) one left few =
    let last = div_ceil_times n room one in
    let there = mul-le-mul_right room few in
    let e : suc j - 1 ≡ j = omega arith in
    rw e (omega arith, omega arith)

pub merge_group-kept-requires-clause-group : goal.merge_group-kept-requires-clause-group
merge_group-kept-requires-clause-group c =
    let n = length c.args.values.now in
    let e : length c.loop-group.values ≡ n = omega arith in
    let was = c.loop-group.invariant.2 in
    let group = ends n (56 / c.args.radix.bits) c.loop-group.group (some c.args.radix.bits c.args.radix.range) c.loop-group-test.true (rw c.div_ceil-group.ensures at c.loop-group.auto.group) in
    rw e (record {
      count = e;
      inside = omega arith;
      whole = c.requires.whole;
      ones = rw (c.min-k.ensures, group.1) was.ones;
      small = λ q h. rw (was.unused q h, get_or-take c.args.rests c.args.values.now q 0 (omega arith)) (c.requires.rests_value.1 q (omega arith));
    })

pub loop-group-preserved : goal.loop-group-preserved
loop-group-preserved c =
    let n = length c.args.values.now in
    let from = (c.loop-group.group - 1) * (56 / c.args.radix.bits) in
    let e : length c.loop-group.values ≡ n = omega arith in
    let was = c.loop-group.invariant.2 in
    let group = ends n (56 / c.args.radix.bits) c.loop-group.group (some c.args.radix.bits c.args.radix.range) c.loop-group-test.true (rw c.div_ceil-group.ensures at c.loop-group.auto.group) in
    let m = rw e at c.merge_group-kept.ensures (take c.args.rests c.args.values.now) (rw (c.min-k.ensures, group.1) was) in
    let here : min n from ≡ from = omega arith in
    let s = sum-take-add from (min (56 / c.args.radix.bits) (n - from)) (continuations_at c.args.part.bytes.now c.args.at n) in
    (omega arith, omega (arith, m.ones, was.ones, rw group.1 at s), rw here m)

pub returns : goal.returns
returns c =
    let n = length c.args.values.now in
    let e : length c.loop-group.values ≡ n = omega arith in
    let none : min n (c.loop-group.group * (56 / c.args.radix.bits)) ≡ 0 = let z : c.loop-group.group ≡ 0 = omega arith in rw z (omega arith) in
    let count = length-continuations c.args.part.bytes.now c.args.at n (omega arith) in
    merging-last c.args.radix.bits (continuations_at c.args.part.bytes.now c.args.at n) (chunks_at c.args.part.bytes.now c.args.at n) (take c.args.rests c.args.values.now) c.loop-group.values c.loop-group.kept
    (rw e count) (rw none at c.loop-group.invariant.2)
