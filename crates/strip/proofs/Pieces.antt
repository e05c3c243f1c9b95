-- Bytes written one after the other, and found again; and the front of a new array.
use mathlib.Core.Path.{◌≡◌, refl, sym, ap, ◌∙◌}
use mathlib.Core.List.{List, [], ◌++◌, append_assoc, append-nil}
use Prim.Native.Nat.{ℕ, zero, suc, ◌+◌, ◌-◌, ◌*◌, ◌≤◌, ◌<◌}
use native.Mathlib.Nat.{mul-zero, mul-suc}
use native.Mathlib.Decide.{dec_lt}
use native.Mathlib.Numerals.{add-one}
use native.Mathlib.Omega.{arith}
use lib.ListN.{length, take, drop, length-append, length-take, length-drop, drop_of_length-le}
use lib.Seq.{take_all, drop-drop}
use borrow.Rule.Slice.PartMut.{mid_of, put_mid}
use Rattle.codes.specs.Lists.{replaced}
use Rattle.codes.proofs.Promises.{list-laws}
use Rattle.tree.specs.declared.nodes.Levels.{Levels}
use Rattle.strip.specs.Image.{joined}
use Rattle.strip.specs.Written.{entry_in}

-- what d levels have begins what more levels have
pub joined-split : (bytes : ℕ → List ℕ) (d h : ℕ) → d < h → (later : List ℕ) × (joined bytes h ≡ joined bytes d ++ (bytes d ++ later))
unfolding joined
joined-split bytes d zero h = absurd (omega arith)
joined-split bytes d (suc e) h = elim (dec_lt d e) [
  | no n ↦ let q : d ≡ e = omega arith in ([], rw q (ap (λ (l : List ℕ). joined bytes e ++ l) (sym (append-nil (bytes e)))))
  | yes l ↦
      let r = joined-split bytes d e l in (
        r.0 ++ bytes e,
        ap (λ (l : List ℕ). l ++ bytes e) r.1 ∙ append_assoc (joined bytes d) (bytes d ++ r.0) (bytes e)
            ∙ ap (λ (l : List ℕ). joined bytes d ++ l) (append_assoc (bytes d) r.0 (bytes e)),
      )
]

pub joined_same : (f g : ℕ → List ℕ) (d : ℕ) → ((i : ℕ) → i < d → f i ≡ g i) → joined f d ≡ joined g d
unfolding joined
joined_same f g zero h = refl
joined_same f g (suc d) h = rw (joined_same f g d (λ i k. h i (omega arith)), h d (omega arith))

pub length-joined : (bytes : ℕ → List ℕ) (k : ℕ) → ((i : ℕ) → length (bytes i) ≡ k) → (d : ℕ) → length (joined bytes d) ≡ k * d
unfolding joined
length-joined bytes k e zero = sym (mul-zero k)
length-joined bytes k e (suc d) = length-append (joined bytes d) (bytes d) ∙ rw (length-joined bytes k e d, e d) (sym (mul-suc k d))

-- there is room for each level where there is for all
pub joined-room : (bytes : ℕ → List ℕ) (d h : ℕ) → d < h → length (joined bytes d) + length (bytes d) ≤ length (joined bytes h)
joined-room bytes d h l =
    let r = joined-split bytes d h l in
    rw (r.1, length-append (joined bytes d) (bytes d ++ r.0), length-append (bytes d) r.0) (omega arith)

pub joined-next : (bytes : ℕ → List ℕ) (d : ℕ) → joined bytes (d + 1) ≡ joined bytes d ++ bytes d
unfolding joined
joined-next bytes d = rw (add-one d)

-- ---- the entries of levels

pub entries_next : (levels : Levels) (out : List ℕ) (d : ℕ) → 7 + 5 * d + 5 ≤ length out
    → replaced (replaced out 7 (joined (entry_in levels) d)) (7 + 5 * d) (entry_in levels d) ≡ replaced out 7 (joined (entry_in levels) (d + 1))
entries_next levels out d h =
    let e : 7 + length (joined (entry_in levels) d) ≡ 7 + 5 * d = omega (arith, length-joined (entry_in levels) 5 (λ i. refl) d) in
    list-laws.replaced_more out 7 (7 + 5 * d) (joined (entry_in levels) d) (entry_in levels d) e (omega arith)
    ∙ ap (replaced out 7) (sym (joined-next (entry_in levels) d))

-- ---- a part of the buffer, lent and written at its front

pub length-lent : (out : List ℕ) (a : ℕ) → length (mid_of a (length out - a) out) ≡ length out - a
length-lent out a = rw (length-take (length out - a) (drop a out), length-drop a out) (omega arith)

pub lent_written : (out : List ℕ) (a : ℕ) (p : List ℕ) → a ≤ length out → put_mid a (length out - a) out (p ++ drop (length p) (mid_of a (length out - a) out)) ≡ replaced out a p
lent_written out a p h =
    let all : take (length out - a) (drop a out) ≡ drop a out = take_all (length out - a) (drop a out) (rw (length-drop a out) (omega arith)) in
    let none : drop (length out - a) (drop a out) ≡ [] = drop_of_length-le (drop a out) {i = length out - a} (rw (length-drop a out) (omega arith)) in
    rw (all, none, drop-drop (length p) a out, append-nil (p ++ drop (a + length p) out)) (sym (append_assoc (take a out) p (drop (a + length p) out)))
