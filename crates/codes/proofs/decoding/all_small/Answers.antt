use Rattle.std.proofs.Common.{◌≡◌, ℕ, ◌+◌, ◌-◌, ◌/◌, ◌%◌, ◌^◌, ◌<◌, ◌≤◌, ltb, eqb, ◌&&◌, get_or, take, refl, ◌∙◌, arith, pow_pos, pow_mono, take_all, bit_or}
use Rattle.std.proofs.lemmas.Nat.{or_lt, and_le_l, and_le_r}
use native.Mathlib.Nat.{div-eq_of_lt}
use Rattle.std.proofs.lemmas.Bool.Decides.{nat_tests}
use Rattle.std.proofs.lemmas.List.{take_more}
use Rattle.std.proofs.lemmas.List.Recursion.{and_push}
use lib.Bits.{or_add_and}
use Rattle.codes.specs.Decode.{from_one}
use Rattle.codes.proofs.decoding.all_small.Goals as goal

-- a word with the bits of v and of one less is small where both are
word : (k joined v : ℕ) → k ≤ 31 → v < 2 ^ 32
    → let less = (v + 4294967295) % 4294967296 in ltb (bit_or joined (bit_or v less)) (2 ^ k) ≡ (ltb joined (2 ^ k) && (ltb 0 v && ltb v (2 ^ k)))
word k joined v h fits =
    let less = (v + 4294967295) % 4294967296 in
    let p : 2 ^ k ≤ 2 ^ 31 = pow_mono {i = k} {j = 31} h in
    let x = or_add_and joined (bit_or v less) in
    let xl = and_le_l joined (bit_or v less) in
    let xr = and_le_r joined (bit_or v less) in
    let y = or_add_and v less in
    let yl = and_le_l v less in
    let yr = and_le_r v less in
    let up : joined < 2 ^ k → v < 2 ^ k → less < 2 ^ k → bit_or joined (bit_or v less) < 2 ^ k =
    λ a b l. or_lt k joined (bit_or v less) a (or_lt k v less b l) in
    grind (arith, nat_tests)

-- of a word that is 0 without its k low bits
low : (k x : ℕ) → eqb (x / 2 ^ k) 0 ≡ ltb x (2 ^ k)
low k x = grind (arith, nat_tests, div-eq_of_lt, pow_pos k)

pub loop-v-preserved : goal.loop-v-preserved
loop-v-preserved c =
    let xs = c.args.values.now in
    let i = c.loop-v.v-index in
    let limit = 2 ^ (32 - c.args.radix.bits) in
    let more = and_push (from_one limit) (λ v. ltb 0 v && ltb v limit) refl (λ _ _. refl) (take i xs) (get_or xs i 0) in
    rw (take_more xs i 0 c.loop-v-test.true, more, ← c.loop-v.invariant) (word (32 - c.args.radix.bits) c.loop-v.joined (get_or xs i 0) (omega arith) (omega (arith, c.type_inv.values i)))

pub returns : goal.returns
returns c =
    let all = take_all c.loop-v.v-index c.args.values.now (omega arith) in
    low (32 - c.args.radix.bits) c.loop-v.joined ∙ rw all at c.loop-v.invariant
