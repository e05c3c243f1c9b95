use Rattle.std.proofs.Common.{◌≡◌, ◌+◌, ◌-◌, length, get_or, sym, ap, ◌∙◌, arith, length-set, get_or-set_same}
use Rattle.codes.specs.Measure.{counted}
use Rattle.codes.proofs.Layers.{within_more, rest-none}
use Rattle.codes.proofs.Lists.{zeros-at}
use Rattle.codes.proofs.Tallies.{measured-more}
use Rattle.codes.proofs.measuring.Counts.sums.Goals as goal

pub loop-t-init : goal.loop-t-init
loop-t-init c = (omega arith, omega arith, λ vs h u k _. zeros-at 33 u ∙ sym (ap length (rest-none u vs (within_more 32 u vs k h.within))))

pub loop-t-preserved : goal.loop-t-preserved
loop-t-preserved c =
    let t = c.loop-t.t - 1 in
    let e : t + 1 ≡ c.loop-t.t = omega arith in
    let x = get_or c.loop-t.over (t + 1) 0 + counted c.args.self.now (31 - t) in (
      length-set c.loop-t.over t x ∙ c.loop-t.invariant.0,
      rw (get_or-set_same c.loop-t.over t x 0 (omega arith), e) (omega (arith, c.requires (31 - t))),
      λ vs h. measured-more c.loop-t.over vs c.args.self.now t (omega arith) c.loop-t.invariant.0 h (λ u l k. c.loop-t.invariant.2 vs h u (omega arith) k),
    )
