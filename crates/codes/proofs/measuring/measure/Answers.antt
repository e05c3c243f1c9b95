use Rattle.std.proofs.Common.{◌≡◌, ℕ, ◌+◌, ◌*◌, ◌/◌, ◌<◌, List, [], length, get_or, take, drop, ap, arith, length-drop}
use Rattle.std.specs.Simd.{first_chunks}
use Rattle.codes.specs.declared.measuring.Counts.{Counts}
use Rattle.codes.specs.Measure.{tally, counted}
use Rattle.codes.proofs.Lists.{zeros-at}
use Rattle.codes.proofs.Tallies.{tally-le, tally-few, tally-chunk, tally-apart}
use Rattle.codes.proofs.measuring.measure.Goals as goal

-- the values over a whole number of fours and the fours passed are not more than the values
few : (z : ℕ) (vs : List ℕ) (i : ℕ) → i < length vs / 4 → tally z (drop (length vs / 4 * 4) vs) + tally z (take (i * 4) vs) + 4 < length vs + 1
few z vs i h =
    omega (arith, tally-few z (i * 4) vs, tally-le z (drop (length vs / 4 * 4) vs), length-drop (length vs / 4 * 4) vs)

pub loop-a-init : goal.loop-a-init
unfolding tally
loop-a-init c =
    let values : List ℕ = c.args.values.now in
    let rest : c.as_chunks.result.1.now ≡ drop (length values / 4 * 4) values = c.as_chunks.ensures.back in
    λ z. omega (arith, rw rest at (c.tally.ensures z), zeros-at 33 z)

pub count-requires : goal.count-requires
count-requires c = λ z. omega (arith, c.loop-a.invariant z, few z c.args.values.now c.loop-a.a-index (omega arith))

pub count-requires-in-loop-a : goal.count-requires-in-loop-a
count-requires-in-loop-a c = λ z. omega (arith, c.loop-a.invariant z, few z c.args.values.now c.loop-a.a-index (omega arith))

pub count-requires-in-loop-a-2 : goal.count-requires-in-loop-a-2
count-requires-in-loop-a-2 c = λ z. omega (arith, c.loop-a.invariant z, few z c.args.values.now c.loop-a.a-index (omega arith))

pub count-requires-in-loop-a-3 : goal.count-requires-in-loop-a-3
count-requires-in-loop-a-3 c = λ z. omega (arith, c.loop-a.invariant z, few z c.args.values.now c.loop-a.a-index (omega arith))

pub loop-a-preserved : goal.loop-a-preserved
loop-a-preserved c =
    let values : List ℕ = c.args.values.now in
    let i = c.loop-a.a-index in
    let fours : c.as_chunks.result.0.now ≡ first_chunks 4 (length values / 4) values = c.as_chunks.ensures.front in
    let four = ap (λ (l : List (List ℕ)). get_or l i []) fours in
    λ z.
    omega (
      arith,
      c.loop-a.invariant z,
      c.count.ensures z,
      c.count-in-loop-a.ensures z,
      c.count-in-loop-a-2.ensures z,
      c.count-in-loop-a-3.ensures z,
      tally-chunk z values _ (length values / 4) i (omega arith) (omega arith) four,
    )

-- where all fours are passed, so are all values
all : (z : ℕ) (vs : List ℕ) (counts : Counts) (i : ℕ) → i ≡ length vs / 4 → counted counts z ≡ tally z (drop (length vs / 4 * 4) vs) + tally z (take (i * 4) vs) → counted counts z ≡ tally z vs
all z vs counts i e h = omega (arith, rw e at h, tally-apart z (length vs / 4 * 4) vs)

pub sums-requires : goal.sums-requires
sums-requires c = λ z. omega (arith, all z c.args.values.now c.loop-a.counts c.loop-a.a-index (omega arith) (c.loop-a.invariant z), tally-le z c.args.values.now)

pub returns : goal.returns
returns c = c.sums.ensures c.args.values.now (record {
  each = λ z. all z c.args.values.now c.loop-a.counts c.loop-a.a-index (omega arith) (c.loop-a.invariant z);
  within = λ j. (c.type_inv.values j).fits;
})
