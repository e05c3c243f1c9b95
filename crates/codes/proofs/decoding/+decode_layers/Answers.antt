use Rattle.std.proofs.Common.{◌≡◌, ℕ, suc, ◌+◌, ◌-◌, ◌*◌, ◌^◌, ◌≤◌, List, ◌++◌, length, take, drop, sym, refl, ◌∙◌, arith, length-append, length-drop, length-take-le, get_or-take, take_all, take_at}
use Rattle.codes.specs.Bits.{bits_of, sum}
use Rattle.codes.specs.Decode.{Decoded, all, undecoded, layered, decoded_layers}
use Rattle.codes.specs.Merging.{continuations_at, chunks_at}
use Rattle.codes.proofs.Bits.{length-fixed}
use Rattle.codes.proofs.Merges.{from-one-at}
use Rattle.codes.proofs.Decodes.{layers-none, layers-stopped, layers-short, layers-at, says-none, says-some}
use Rattle.codes.proofs.decoding.+decode_layers.Goals as goal

-- a layer that lies in the part, by what the layers after it have
layered_at : (f b at rests : ℕ) (part xs : List ℕ) (d : Decoded) → let n = length xs in
    1 ≤ f → at + (n + n * b) ≤ length part * 8 → rests ≤ n → rests ≡ sum (take (at + n - at) (drop at (bits_of part)))
    → decoded_layers (f - 1) b (length (take rests xs)) (drop (at + (n + n * b)) (bits_of part)) ≡ d
    → decoded_layers f b n (drop at (bits_of part)) ≡ layered b (continuations_at part at n) (chunks_at part at n) d
layered_at f b at rests part xs d some whole few ones later =
    let e : at + length xs - at ≡ length xs = omega arith in
    layers-at f b (length xs) at rests (bits_of part) d some (simp length-fixed whole) (rw e at ones) (rw (length-take-le rests xs few) at later)

-- values of which the first are those of the layers after
front : (rests : ℕ) (xs later : List ℕ) → rests ≤ length xs → length later ≡ length (take rests xs)
    → (length (later ++ drop rests xs) ≡ length xs) × (take rests (later ++ drop rests xs) ≡ later)
front rests xs later h e =
    let l = length-take-le rests xs h in
    (simp (length-append, length-drop) (omega arith), take_at later (drop rests xs) rests (e ∙ l))

pub returns-then-n-eq0 : goal.returns-then-n-eq0
returns-then-n-eq0 t c =
    let e : length c.args.values.now ≡ 0 = omega arith in
    rw (e, layers-none c.args.layers c.args.radix.bits (drop c.args.at (bits_of c.args.part.bytes.now))) (refl, sym (take_all 0 c.args.values.now (omega arith)))

pub returns-then-layers-eq0 : goal.returns-then-layers-eq0
returns-then-layers-eq0 t c =
    let e : c.args.layers ≡ 0 = omega arith in
    rw (e, layers-stopped c.args.radix.bits (length c.args.values.now) (drop c.args.at (bits_of c.args.part.bytes.now)) (omega arith)) refl

pub returns-then-part-at : goal.returns-then-part-at
returns-then-part-at t c =
    let bs = drop c.args.at (bits_of c.args.part.bytes.now) in
    let e : c.args.layers ≡ suc (c.args.layers - 1) = omega arith in
    rw (e, layers-short (c.args.layers - 1) c.args.radix.bits (length c.args.values.now) bs (simp (length-drop, length-fixed) (omega arith))) refl

pub returns-in_err-decode_layers : goal.returns-in_err-decode_layers
returns-in_err-decode_layers t c =
    let a = c.args in
    let r = c.count_ones-rests in
    rw (layered_at a.layers a.radix.bits a.at r.result a.part.bytes.now a.values.now undecoded (omega arith) (omega arith) (omega arith) r.ensures.1 (says-none _ _ c.in_err-decode_layers.ensures)) c.from_residual.ensures

pub returns-then-not-all_small : goal.returns-then-not-all_small
returns-then-not-all_small t c =
    let a = c.args in
    let r = c.count_ones-rests in
    let later = c.decode_layers.new.values in
    let f = front r.result a.values.now later (omega arith) c.decode_layers.auto.values in
    let large = rw f.1 at (sym c.all_small.ensures ∙ c.if-not-all_small.true) in
    rw (layered_at a.layers a.radix.bits a.at r.result a.part.bytes.now a.values.now (all later) (omega arith) (omega arith) (omega arith) r.ensures.1 (says-some _ later c.in_ok-decode_layers.ensures), large) refl

pub merge_by_width-requires-clause-rests_value : goal.merge_by_width-requires-clause-rests_value
merge_by_width-requires-clause-rests_value t c =
    let a = c.args in
    let r = c.count_ones-rests in
    let later = c.decode_layers.new.values in
    let n = length a.values.now in
    let e : a.at + n - a.at ≡ n = omega arith in
    let f = front r.result a.values.now later (omega arith) c.decode_layers.auto.values in
    let values = later ++ drop r.result a.values.now in
    let l = length-take-le r.result values (omega (arith, f.0)) in
    let small = from-one-at (2 ^ (32 - a.radix.bits)) (take r.result values) (sym c.all_small.ensures ∙ c.if-not-all_small.false) in
    (rw f.0 (rw e at r.ensures.1), λ q h. rw (get_or-take r.result values q 0 h) at (small q (omega arith)).1)

pub returns : goal.returns
returns t c =
    let a = c.args in
    let r = c.count_ones-rests in
    let later = c.decode_layers.new.values in
    let f = front r.result a.values.now later (omega arith) c.decode_layers.auto.values in
    let small = rw f.1 at (sym c.all_small.ensures ∙ c.if-not-all_small.false) in
    rw (layered_at a.layers a.radix.bits a.at r.result a.part.bytes.now a.values.now (all later) (omega arith) (omega arith) (omega arith) r.ensures.1 (says-some _ later c.in_ok-decode_layers.ensures), small)
    (refl, rw (f.0, f.1) at c.merge_by_width.ensures)
