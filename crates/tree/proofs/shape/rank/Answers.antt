-- The highest digit of v is the root, whose stretch is the whole list.
use Rattle.std.proofs.Common.{Some, ℕ, ◌≡◌, ◌≤◌, ◌-◌, ◌/◌, ◌^◌, ap, arith, ne_eqb, lt-ltb, le-ltb}
use Rattle.tree.specs.Shape.{height, ranked}
use Rattle.tree.proofs.Heights.{height-above, height-le, top_digit}
use Rattle.tree.proofs.Stretches.{stretch-root}
use Rattle.tree.proofs.shape.rank.Goals.{then-v-eq0-via-then-v-eq0, then-v-eq0-via-else-v-eq0+then-n-v}
use Rattle.tree.proofs.shape.rank.Goals as goal

pub returns-then-v-eq0 : goal.returns-then-v-eq0
unfolding ranked
returns-then-v-eq0 c = elim c.then-v-eq0.branch [
  | then-v-eq0-via-then-v-eq0 w ↦ rw w.if-v-eq0.true
  | then-v-eq0-via-else-v-eq0+then-n-v w ↦ rw (ne_eqb c.args.v 0 w.if-v-eq0.false, lt-ltb c.args.n c.args.v w.if-n-v.true)
]

pub overflow_sub-height : goal.overflow_sub-height
overflow_sub-height c = omega (arith, height-above c.args.v 0 (omega arith), c.height.ensures)

-- the highest digit
top : (v h : ℕ) → h ≡ height v → 1 ≤ v → v / 2 ^ (h - 1) ≡ 1
top v h e some = rw e (top_digit v some)

pub rank_under-requires-clause-depth_bound : goal.rank_under-requires-clause-depth_bound
rank_under-requires-clause-depth_bound c =
    (omega (arith, height-le c.args.v 64 (omega arith), c.height.ensures), omega arith, omega (arith, top c.args.v c.height.result c.height.ensures (omega arith)))

pub rank_under-requires-clause-among : goal.rank_under-requires-clause-among
rank_under-requires-clause-among c =
    (c.args.n, omega arith, rw (top c.args.v c.height.result c.height.ensures (omega arith)) (stretch-root c.args.n))

pub returns : goal.returns
unfolding ranked
returns c =
    let is = c.rank_under.ensures c.args.n (rw (top c.args.v c.height.result c.height.ensures (omega arith)) (stretch-root c.args.n)) in
    rw (ne_eqb c.args.v 0 (omega arith), le-ltb c.args.n c.args.v (omega arith)) (ap (λ (p : ℕ). Some p) is)
