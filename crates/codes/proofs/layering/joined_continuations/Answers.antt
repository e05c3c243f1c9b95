use Rattle.std.proofs.Common.{◌+◌, map, take, refl, ◌∙◌, arith, length-take-le, pow_mono}
use Rattle.std.proofs.lemmas.List.{length-map}
use Rattle.codes.specs.Bits.{number}
use Rattle.codes.specs.Codes.{continuation}
use Rattle.codes.proofs.Bits.{number_lt}
use Rattle.codes.proofs.Layers.{bits-continuations}
use Rattle.codes.proofs.LayersWritten.{number-continuations-suc}
use Rattle.codes.proofs.layering.joined_continuations.Goals as goal

pub loop-v-init : goal.loop-v-init
unfolding number
loop-v-init c = (refl, omega arith)

pub loop-v-preserved : goal.loop-v-preserved
loop-v-preserved c =
    let b = c.args.radix.bits in
    let vs = c.args.values.now in
    let i = c.loop-v.v-index in
    let e = number-continuations-suc b vs i (omega arith) in
    let n = length-map (take (i + 1) vs) (continuation b) ∙ length-take-le (i + 1) vs (omega arith) in
    let lt = number_lt (map (continuation b) (take (i + 1) vs)) (bits-continuations b (take (i + 1) vs)) n in
    (omega (arith, e), omega (arith, e, pow_mono {i = i + 1} {j = 32} (omega arith)))
