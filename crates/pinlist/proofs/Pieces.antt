-- Bytes put into a buffer, and pieces of a text.
use mathlib.Core.Path.{◌≡◌, refl, sym, ap, ◌∙◌}
use mathlib.Core.List.{List, [], ◌++◌, append_assoc, append-nil}
use Prim.Native.Nat.{ℕ, ◌+◌, ◌≤◌}
use native.Mathlib.Omega.{arith}
use lib.ListN.{length, take, drop, length-append}
use lib.Seq.{take_at}
use Rattle.codes.specs.Lists.{replaced}
use Rattle.codes.proofs.Promises.{list-laws}

-- bytes put where those before them end
pub puts-on : (text p q : List ℕ) (a : ℕ) {mid after : List ℕ} {b end : ℕ} → mid ≡ replaced text a p → b ≡ a + length p → after ≡ replaced mid b q
    → end ≡ b + length q → b ≤ length text → (after ≡ replaced text a (p ++ q)) × (end ≡ a + length (p ++ q))
puts-on text p q a {b = b} m e f g h =
    (f ∙ ap (λ (t : List ℕ). replaced t b q) m ∙ list-laws.replaced_more text a b p q (sym e) h, omega (arith, length-append p q))

-- bytes put to the front, found again
pub front-is : (text : List ℕ) {after p : List ℕ} {end : ℕ} → after ≡ replaced text 0 p → end ≡ length p → (take end after ≡ p) × (end ≤ length after)
front-is text {p = p} {end = end} e f =
    let later = drop (0 + length p) text in
    (rw e (take_at p later end (sym f)), rw (e, length-append p later) (omega arith))

-- a piece of a text between what comes before it and what comes after it
pub piece-next : (before piece after : List ℕ) {text : List ℕ} {done : ℕ} → text ≡ (before ++ piece) ++ after → length before ≡ done
    → take done text ++ piece ≡ take (done + length piece) text
piece-next before piece after {done = done} e d =
    let both : length (before ++ piece) ≡ done + length piece = rw (length-append before piece, d) in
    let front : take done ((before ++ piece) ++ after) ≡ before = rw (append_assoc before piece after) (take_at before (piece ++ after) done d) in
    rw (e, front, take_at (before ++ piece) after (done + length piece) both)

-- the whole of it
pub whole-next : {text piece : List ℕ} → text ≡ piece → take 0 text ++ piece ≡ take (0 + length piece) text
whole-next {piece = piece} e = piece-next [] piece [] (e ∙ sym (append-nil piece)) refl
