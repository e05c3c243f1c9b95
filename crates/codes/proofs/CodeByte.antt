-- A code byte is fixed up to 32, chunked from 65 to 72, and refused otherwise.
use Rattle.std.proofs.Common.{◌≡◌, ℕ, ◌-◌, ◌<◌, ◌≤◌, Bool, true, false, cond, ltb, refl, arith, ltb-false, ltb-true, le-ltb, lt-ltb}
use Rattle.codes.specs.declared.kinds.Kind.TheVariants.{Fixed, Chunked, Refused}
use Rattle.codes.specs.Codes.{kind_of}
use Rattle.codes.specs.Promises.{Known, CodeKnown}

pub kind-fixed : (code : ℕ) → code < 33 → kind_of code ≡ Fixed code
unfolding kind_of
kind-fixed code h = rw (lt-ltb code 33 h)

pub kind-chunked : (code : ℕ) → 65 ≤ code → code < 73 → kind_of code ≡ Chunked (code - 64)
unfolding kind_of
kind-chunked code l h = rw (le-ltb code 33 (omega arith), le-ltb code 65 l, lt-ltb code 73 h)

pub kind-known : (code : ℕ) → Known (kind_of code) code
unfolding kind_of
kind-known code = go (ltb code 33) (ltb code 65) (ltb code 73) refl refl refl
  where
    go : (s t u : Bool) → ltb code 33 ≡ s → ltb code 65 ≡ t → ltb code 73 ≡ u
        → Known (cond s (Fixed code) (cond t Refused (cond u (Chunked (code - 64)) Refused))) code
    go true t u p q r = (omega (arith, ltb-true code 33 p), refl)
    go false true u p q r = tt
    go false false true p q r = let l = ltb-false code 65 q in (omega arith, omega (arith, ltb-true code 73 r), omega arith)
    go false false false p q r = tt

-- where the kind has a name
pub kind-told : CodeKnown
kind-told code k e = rw e at (kind-known code)
