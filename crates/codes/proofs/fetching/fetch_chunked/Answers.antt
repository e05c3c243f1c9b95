use Rattle.std.proofs.Common.{ℕ, Option, Some, None, Result, Ok, Err, OkIff, ◌≡◌, ◌+◌, ◌<◌, ◌≤◌, take, drop, sym, refl, ap, ◌∙◌, mul-le-mul_right, mul-le-mul_left, arith}
use Rattle.std.proofs.lemmas.Option.{none-some, same_Some}
use Rattle.std.specs.Result.{result_ok}
use Rattle.codes.specs.Bits.{number, bits_of}
use Rattle.codes.specs.Fetch.{value, within32, chunked_at}
use Rattle.codes.proofs.Bits.{length-fixed}
use Rattle.codes.proofs.Words.{sum-part-le}
use Rattle.codes.proofs.Turns.{extended-zero, answer-short, answer-last, answer-over, answer-more}
use Rattle.codes.proofs.fetching.fetch_chunked.Goals as goal

-- a number that is told by `try_from` and `ok`
some-fits : {E : Type 0} (r : Result ℕ E) (P : Type 0) (v x : ℕ) {o : Option ℕ} → OkIff r P v → o ≡ result_ok r → o ≡ Some x → P × (x ≡ v)
some-fits (Ok y) P v x h e is = (h.0, sym (same_Some y x (sym e ∙ is)) ∙ h.1)
some-fits (Err d) P v x h e is = absurd (none-some x (sym e ∙ is))

none-over : {E : Type 0} (r : Result ℕ E) (P : Type 0) (v : ℕ) {o : Option ℕ} → OkIff r P v → o ≡ result_ok r → o ≡ None → P → ⊥
none-over (Ok y) P v h e is = absurd (none-some y (sym is ∙ e))
none-over (Err d) P v h e is = h

pub returns-then-end-count : goal.returns-then-end-count
returns-then-end-count c =
    let bs = bits_of c.args.part.bytes.now in
    let short = answer-short bs (length-fixed 8 c.args.part.bytes.now) c.args.b 0 c.args.count c.args.index 0 0 (omega arith) (omega arith) in
    record { result_value = sym short ∙ ap within32 (extended-zero (chunked_at c.args.b c.args.count c.args.index bs)); marks_2 = c.requires.marks }

pub returns-in_err-value : goal.returns-in_err-value
returns-in_err-value c =
    let l = c.loop-layer in
    let part = c.args.part.bytes.now in
    let over : l.acc + c.chunk_at-acc.result < 4294967296 → ⊥ = none-over c.try_from.result _ _ c.try_from.ensures c.ok.ensures.value c.in_err-value.was in
    rw c.from_residual.ensures (record {
      result_value = sym (answer-over (bits_of part) (length-fixed 8 part) c.args.b l.layer.at l.layer.count l.layer.index l.shift l.acc l.invariant.0 (omega arith) (omega (arith, over))) ∙ l.invariant.8;
      marks_2 = l.invariant.11;
    })

pub returns-then-read-eq0 : goal.returns-then-read-eq0
returns-then-read-eq0 c =
    let bs = bits_of c.args.part.bytes.now in
    let fits = some-fits c.try_from.result _ _ _ c.try_from.ensures c.ok.ensures.value c.in_ok-value.was in
    record { result_value = ap value (omega (arith, fits)) ∙ sym (answer-last bs (length-fixed 8 c.args.part.bytes.now) c.args.b c.loop-layer.layer.at c.loop-layer.layer.count c.loop-layer.layer.index c.loop-layer.shift c.loop-layer.acc c.loop-layer.invariant.0 (omega arith) (omega (arith, fits)) (omega arith)) ∙ c.loop-layer.invariant.8; marks_2 = c.loop-layer.invariant.11 }

pub loop-layer-preserved : goal.loop-layer-preserved
loop-layer-preserved c =
    let bs = bits_of c.args.part.bytes.now in
    let fits = some-fits c.try_from.result _ _ _ c.try_from.ensures c.ok.ensures.value c.in_ok-value.was in
    let one : number (take 1 (drop (c.loop-layer.layer.at + c.loop-layer.layer.index) bs)) ≡ 0 → ⊥ = λ z. omega arith in
    let more = answer-more bs (length-fixed 8 c.args.part.bytes.now) c.args.b c.loop-layer.layer.at c.loop-layer.layer.count c.loop-layer.layer.index c.loop-layer.shift c.loop-layer.acc c.loop-layer.invariant.0 (omega arith) one in
    let t = c.next_layer-layer.ensures.next_layer in
    let k : c.next_layer-layer.result.index < c.next_layer-layer.result.count = omega (arith, t.index_is, t.count_is) in
    let few : c.next_layer-layer.result.count ≤ c.loop-layer.layer.count = omega (arith, t.count_is, sum-part-le c.args.part.bytes.now c.loop-layer.layer.at c.loop-layer.layer.count) in (
      k,
      omega arith,
      mul-le-mul_left c.next_layer-layer.result.count c.requires.le_b.1,
      omega (arith, mul-le-mul_right c.args.b k),
      refl,
      omega (arith, t.begins, c.loop-layer-test.true, c.loop-layer.invariant.5),
      omega arith,
      omega (arith, fits),
      rw (t.count_is, t.index_is, t.begins, c.min-shift.ensures, c.chunk_at-acc.ensures.1) (sym more.1 ∙ c.loop-layer.invariant.8),
      omega (arith, t.begins, t.mark_is, c.loop-layer.invariant.9, c.loop-layer.invariant.0),
      omega arith,
      c.next_layer-layer.ensures.marks_2,
    )

pub returns : goal.returns
returns c =
    let bs = bits_of c.args.part.bytes.now in
    record { result_value = sym (answer-short bs (length-fixed 8 c.args.part.bytes.now) c.args.b c.loop-layer.layer.at c.loop-layer.layer.count c.loop-layer.layer.index c.loop-layer.shift c.loop-layer.acc c.loop-layer.invariant.0 (omega arith)) ∙ c.loop-layer.invariant.8; marks_2 = c.loop-layer.invariant.11 }
