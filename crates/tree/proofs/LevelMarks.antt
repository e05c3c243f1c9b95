-- The marks of all levels: those of one level are renewed, and those of no bits are marks of any levels.
use mathlib.Core.Path.{◌≡◌, sym, ap, ◌∙◌}
use mathlib.Core.List.{List, ◌++◌}
use Prim.Native.Nat.{ℕ, ◌+◌, ◌-◌, ◌*◌, ◌/◌, ◌≤◌, ◌<◌}
use native.Mathlib.Nat.{mul-le-mul_right}
use native.Mathlib.Decide.{dec_lt}
use native.Mathlib.Omega.{arith}
use lib.ListN.{length, take, drop, get_or, replicate, length-take, length-drop, take-append-drop, get_or-eq_default, get_or-replicate, length-replicate}
use lib.Seq.{length-take-le, take_at, drop_at, drop-drop, take-append-le, drop-append-le, get_or-take, get_or-drop}
use borrow.Rule.Slice.PartMut.{mid_of, put_mid, post_of, same_len_mid, mid_len, drop_put}
use Rattle.codes.specs.declared.marking.Mark.{Mark}
use Rattle.codes.specs.Marks.{none, Marks}
use Rattle.codes.proofs.Promises.{zero-marks}
use Rattle.tree.specs.Levels.{part_of}
use Rattle.tree.specs.LevelMarks.{marks_of, LevelMarks}

-- ---- entries in the place of the k from a on

module _ {A : Type 0} (a k : ℕ) (xs ys : List A) (l : a + k ≤ length xs) (e : length ys ≡ k) where
  put-there : take k (drop a (put_mid a k xs ys)) ≡ ys
  put-there = rw (drop_at (take a xs) (ys ++ post_of a k xs) a (length-take-le a xs (omega arith)), take_at ys (post_of a k xs) k e)

  kept-before : (b : ℕ) → b + k ≤ a → take k (drop b (put_mid a k xs ys)) ≡ take k (drop b xs)
  kept-before b h = front (ys ++ post_of a k xs) ∙ sym (front (drop a xs)) ∙ ap (λ (zs : List A). take k (drop b zs)) (take-append-drop a xs)
    where
      front : (zs : List A) → take k (drop b (take a xs ++ zs)) ≡ take k (drop b (take a xs))
      front zs =
          let n = length-take-le a xs (omega arith) in
          rw (drop-append-le b (take a xs) zs (omega arith), take-append-le k (drop b (take a xs)) zs (simp length-drop (omega arith)))

  kept-after : (b : ℕ) → a + k ≤ b → take k (drop b (put_mid a k xs ys)) ≡ take k (drop b xs)
  kept-after b h =
      let size : a + k - a ≡ k = omega arith in
      let on : a + k + (b - (a + k)) ≡ b = omega arith in
      let there = rw size at (drop_put a (a + k) xs ys (omega arith) l (e ∙ sym size)) in
      ap (take k) (rw on at (sym (drop-drop (b - (a + k)) (a + k) (put_mid a k xs ys)) ∙ ap (drop (b - (a + k))) there ∙ drop-drop (b - (a + k)) (a + k) xs))

-- ---- the marks of the level below d others, as they are lent

-- they are among all
pub marks-room : (d n : ℕ) → d < 16 → d * (n / 16) + n / 16 ≤ n
marks-room d n h = omega (arith, mul-le-mul_right (n / 16) h)

-- as many as of each level
size : (d k : ℕ) → d * k + k - d * k ≡ k
size d k = omega arith

module _ {ends s : List ℕ} {ms : List Mark} (old : LevelMarks ends s ms) (d : ℕ) (h : d < 16) where
  abbrev k : ℕ
  k = length ms / 16

  pub marks-lent : Marks (part_of ends s d) (mid_of (d * k) (d * k + k - d * k) ms)
  marks-lent = rw (size d k) (old.marks d h)

  -- back and still true, with the others as they were
  pub marks-back : (ys : List Mark) → length ys ≡ length (mid_of (d * k) (d * k + k - d * k) ms) → Marks (part_of ends s d) ys
      → LevelMarks ends s (put_mid (d * k) (d * k + k - d * k) ms ys)
  marks-back ys l new = rw (size d k) (record { marks = λ e b. rw whole (go e b) })
    where
      room : d * k + k ≤ length ms
      room = marks-room d (length ms) h

      many : length ys ≡ k
      many = l ∙ mid_len (d * k) (d * k + k) ms room ∙ size d k

      whole : length (put_mid (d * k) k ms ys) ≡ length ms
      whole = same_len_mid (d * k) k ms ys (rw (size d k) at l)

      go : (e : ℕ) → e < 16 → Marks (part_of ends s e) (take k (drop (e * k) (put_mid (d * k) k ms ys)))
      go e b = elim (dec_lt e d) [
        | yes y ↦ rw (kept-before (d * k) k ms ys room many (e * k) (omega (arith, mul-le-mul_right k y))) (old.marks e b)
        | no n ↦ elim (dec_lt d e) [
          | yes y ↦ rw (kept-after (d * k) k ms ys room many (e * k) (omega (arith, mul-le-mul_right k y))) (old.marks e b)
          | no m ↦ let same : e ≡ d = omega arith in rw (same, put-there (d * k) k ms ys room many) new
        ]
      ]

-- ---- marks of no bits

-- any number of them
pub marks-none : (ends s : List ℕ) (n : ℕ) → LevelMarks ends s (replicate n none)
marks-none ends s n = record { marks = λ d h. zero-marks (part_of ends s d) (marks_of (replicate n none) d) (lent d) }
  where
    all : List Mark
    all = replicate n none

    nones : (j : ℕ) → get_or all j none ≡ none
    nones j = elim (dec_lt j n) [
      | yes y ↦ get_or-replicate n j none none y
      | no m ↦ get_or-eq_default all none (simp length-replicate (omega arith))
    ]

    lent : (d j : ℕ) → get_or (marks_of all d) j none ≡ none
    lent d j =
        let k = length all / 16 in
        let rest = drop (d * k) all in
        elim (dec_lt j k) [
          | yes y ↦ get_or-take k rest j none y ∙ get_or-drop (d * k) all j none ∙ nones (d * k + j)
          | no m ↦ get_or-eq_default (take k rest) none (rw length-take (omega arith))
        ]
