-- A part that was written in a fixed code is exactly as long as its values need. In one that is, each value has its bits.
use Rattle.std.proofs.Common.{◌≡◌, ℕ, ◌+◌, ◌*◌, ◌<◌, ◌≤◌, true, List, length, refl, ap, mul-le-mul_right, arith, eq-eqb, eqb-true}
use Rattle.codes.specs.declared.kinds.Kind.{Kind}
use Rattle.codes.specs.declared.kinds.Kind.TheVariants.{Fixed, Chunked, Refused}
use Rattle.codes.specs.Bits.{bytes_for, bits_of}
use Rattle.codes.specs.Codes.{kind_of, kind_bits, level_bits, is_exact, Holds}
use Rattle.codes.specs.Fetch.{outside, kind_fetched, fetched, Inside}
use Rattle.codes.specs.Promises.{ExactParts}
use Rattle.codes.proofs.Bits.{length-fixed, length-padded}
use Rattle.codes.proofs.Fetches.{fixed-inside}

written-exact : (k : Kind) (vs : List ℕ) → Holds k vs → is_exact k (length vs) (bytes_for (length (kind_bits k vs))) ≡ true
unfolding kind_bits
written-exact (Fixed w) vs h = eq-eqb _ _ (ap bytes_for (length-fixed w vs))
written-exact (Chunked b) vs h = refl
written-exact Refused vs h = absurd h

exact-inside : (k : Kind) (count bytes j : ℕ) → is_exact k count bytes ≡ true → j < count → Inside k j bytes
exact-inside (Fixed w) count bytes j e h =
    let m : (j + 1) * w ≤ count * w = mul-le-mul_right w (omega arith) in
    omega (arith, eqb-true bytes (bytes_for (count * w)) e)
exact-inside (Chunked b) count bytes j e h = tt
exact-inside Refused count bytes j e h = tt

exact-outside : (k : Kind) (count j : ℕ) (bytes : List ℕ) → is_exact k count (length bytes) ≡ true → j < count → kind_fetched k count j (bits_of bytes) ≡ outside
    → (b : ℕ) × (k ≡ Chunked b)
exact-outside (Fixed w) count j bytes e h o =
    let f = fixed-inside w j (bits_of bytes) (rw (length-fixed 8 bytes) (exact-inside (Fixed w) count (length bytes) j e h)) in
    let z : ◌≡◌ {A = ℕ} 0 1 = cc in
    absurd (omega arith)
exact-outside (Chunked b) count j bytes e h o = (b, refl)
exact-outside Refused count j bytes e h o = let z : ◌≡◌ {A = ℕ} 0 1 = cc in absurd (omega arith)

pub exact-told : ExactParts
unfolding fetched
exact-told = record {
  fewest = λ bits. (omega arith, λ bytes h. omega arith);
  written = λ code vs h. rw (length-padded (level_bits code vs)) (written-exact (kind_of code) vs h);
  inside = exact-inside;
  only_chunked = λ code count j bytes e h o. exact-outside (kind_of code) count j bytes e h o;
}
