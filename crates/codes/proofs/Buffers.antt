-- Entries written into a buffer one after the other, and the laws of lists that the layers above cite.
use Rattle.std.proofs.Common.{◌≡◌, ℕ, ◌+◌, ◌-◌, ◌<◌, ◌≤◌, List, [], ◌∷◌, ◌++◌, length, take, drop, set, ap, ◌∙◌, append_assoc, append-nil, add-zero, arith, length-append, length-drop, take-append-drop, length-take, length-take-le, drop-drop, take_at, drop_at}
use Rattle.std.proofs.lemmas.List.Edits.{sets-eq}
use Rattle.codes.specs.Lists.{replaced}
use Rattle.codes.specs.Promises.{ListLaws}
use Rattle.codes.proofs.Lists.{same_lists, same_itself}

length-replaced : (out : List ℕ) (a : ℕ) (p : List ℕ) → a + length p ≤ length out → length (replaced out a p) ≡ length out
length-replaced out a p h =
    rw (length-append (take a out ++ p) (drop (a + length p) out), length-append (take a out) p, length-take a out, length-drop (a + length p) out) (omega arith)

replaced_more : (out : List ℕ) (a b : ℕ) (p q : List ℕ) → a + length p ≡ b → b ≤ length out → replaced (replaced out a p) b q ≡ replaced out a (p ++ q)
replaced_more out a b p q e h =
    let front = take a out ++ p in
    let whole : replaced out a p ≡ front ++ drop b out = rw e in
    let len : length front ≡ b = rw (length-append (take a out) p, length-take-le a out (omega arith)) e in
    let far : b + length q ≡ a + length (p ++ q) = rw (length-append p q) (omega arith) in
    rw (
      whole,
      take_at front (drop b out) b len,
      ← (drop-drop (length q) b (front ++ drop b out)),
      drop_at front (drop b out) b len,
      drop-drop (length q) b out,
      append_assoc (take a out) p q,
      far,
    )

replaced_next : (out : List ℕ) (i x : ℕ) (q : List ℕ) → i < length out → replaced (set out i x) (i + 1) q ≡ replaced out i (x ∷ q)
replaced_next out i x q h =
    ap (λ (o : List ℕ). replaced o (i + 1) q) (sets-eq (x ∷ []) out i (omega arith)) ∙ replaced_more out i (i + 1) (x ∷ []) q (omega arith) (omega arith)

pub buffer-laws : ListLaws
buffer-laws = record {
  same_lists = same_lists;
  same_itself = same_itself;
  replaced_none = λ out a. rw (append-nil (take a out), add-zero a) (take-append-drop a out);
  replaced_more = replaced_more;
  replaced_next = replaced_next;
  replaced_around = λ out a b p x q e h.
      replaced_next (replaced out a p) b x q (omega (arith, length-replaced out a p (omega arith))) ∙ replaced_more out a b p (x ∷ q) e (omega arith);
  filled_whole = λ n xs e. let none : n - length xs ≡ 0 = omega arith in rw none (append-nil xs);
}
