use Rattle.std.proofs.Common.{◌≡◌, ℕ, ◌+◌, ◌*◌, ◌<◌, ◌≤◌, List, length, get_or, sym, arith}
use Rattle.codes.specs.Codes.{rest, chunked}
use Rattle.codes.specs.Measure.{Measured}
use Rattle.codes.proofs.Best.{size-chunked}
use Rattle.codes.proofs.Layers.{layers-nil, rest-none, within_more}
use Rattle.codes.proofs.ChunkCounts.{length-layer, length-next}
use Rattle.codes.proofs.choosing.Widths.chunked.Goals as goal
use Rattle.codes.proofs.choosing.Widths.chunked.Goals.{else-loop-s-test, then-loop-s-test+else-b-s}

pub loop-s-init : goal.loop-s-init
loop-s-init c = (omega arith, omega arith, omega arith, λ vs h e. rw (← e) (sym (length-layer c.args.b vs c.requires.0 h.within)))

-- the chunks of the layer from bit s on, and the code of the values from the next one on
layer : (over vs : List ℕ) (b s chunks : ℕ) → 1 ≤ b → 1 ≤ s → s < 32 → Measured vs over → chunks * (b + 1) + length (chunked b (rest s vs)) ≡ length (chunked b vs)
    → (chunks + get_or over s 0) * (b + 1) + length (chunked b (rest (s + b) vs)) ≡ length (chunked b vs)
layer over vs b s chunks l m k h e =
    omega (arith, e, rw (← (h.each s (omega arith))) at (length-next b s vs l m h.within))

pub loop-s-preserved : goal.loop-s-preserved
loop-s-preserved c = (
  omega arith,
  omega arith,
  omega (arith, c.args.self.now.parts c.loop-s.s),
  λ vs h e. layer c.args.self.now.over vs c.args.b c.loop-s.s c.loop-s.chunks (omega arith) (omega arith) (omega arith) h (c.loop-s.invariant.3 vs h e),
)

pub returns : goal.returns
returns c = elim c.loop-s-test.branch [
  | else-loop-s-test w ↦ absurd (omega arith)
  | then-loop-s-test+else-b-s w ↦ λ vs h e.
      let more = layer c.args.self.now.over vs c.args.b c.loop-s.s c.loop-s.chunks (omega arith) (omega arith) (omega arith) h (c.loop-s.invariant.3 vs h e) in
      let whole = rw (rest-none (c.loop-s.s + c.args.b) vs (within_more 32 (c.loop-s.s + c.args.b) vs (omega arith) h.within), layers-nil 32 c.args.b) at more in
      let l : (c.loop-s.chunks + get_or c.args.self.now.over c.loop-s.s 0) * (c.args.b + 1) ≡ length (chunked c.args.b vs) = omega (arith, whole) in
      rw (w.chunks-is, l, ← (size-chunked c.args.b vs c.requires.0 (omega arith)))
]
