-- Where levels lie that follow each other: their entries, and that they fit the bytes that they fill.
use mathlib.Core.Path.{◌≡◌, refl, ◌∙◌}
use mathlib.Core.Bool.{true}
use mathlib.Core.List.{List}
use Prim.Native.Nat.{ℕ, zero, suc, ◌+◌, ◌^◌, ◌≤◌, ◌<◌}
use native.Mathlib.Nat.{le_refl, add-sub_cancel_left}
use native.Mathlib.Decide.{dec_lt}
use native.Mathlib.Numerals.{add-one}
use native.Mathlib.Omega.{arith}
use lib.ListN.{length, drop, get_or, set, length-set, length-replicate, length-drop}
use lib.Seq.{get_or-set_same, get_or-set_other, length-take-le}
use Rattle.codes.specs.Codes.{kind_of, is_exact}
use Rattle.tree.specs.declared.nodes.Levels.{Levels}
use Rattle.tree.specs.Shape.{height}
use Rattle.tree.specs.Levels.{count_of, part_of, Fits}
use Rattle.tree.proofs.Promises.{height-least}
use Rattle.strip.specs.Layout.{max_height, parts_start, no_levels, end_after, filled, entered, laid_out}

-- a pin count of two bytes has a height of at most 16
pub height_fits : (n : ℕ) → n < 2 ^ 16 → height n ≤ max_height
height_fits n h = height-least.least n 16 (omega arith)

length-filled : (count : ℕ) (f : ℕ → ℕ) (d : ℕ) → length (filled count f d) ≡ count
unfolding filled
length-filled count f zero = length-replicate count 0
length-filled count f (suc d) = length-set (filled count f d) d (f d) ∙ length-filled count f d

get_or-filled : (count : ℕ) (f : ℕ → ℕ) (d i : ℕ) → i < d → d ≤ count → get_or (filled count f d) i 0 ≡ f i
unfolding filled
get_or-filled count f zero i h k = absurd (omega arith)
get_or-filled count f (suc d) i h k = elim (dec_lt i d) [
  | yes l ↦ get_or-set_other (filled count f d) d i (f d) 0 (omega arith) ∙ get_or-filled count f d i l (omega arith)
  | no n ↦ let e : i ≡ d = omega arith in rw e (get_or-set_same (filled count f d) d (f d) 0 (omega (arith, length-filled count f d)))
]

filled-same : (count : ℕ) (f g : ℕ → ℕ) (d : ℕ) → ((i : ℕ) → i < d → f i ≡ g i) → filled count f d ≡ filled count g d
unfolding filled
filled-same count f g zero h = refl
filled-same count f g (suc d) h = rw (filled-same count f g d (λ i k. h i (omega arith)), h d (omega arith))

pub end-next : (start : ℕ) (len : ℕ → ℕ) (d : ℕ) → end_after start len (suc d) ≡ end_after start len d + len d
unfolding end_after
end-next start len d = refl

pub end-start : (start : ℕ) (len : ℕ → ℕ) → end_after start len 0 ≡ start
unfolding end_after
end-start start len = refl

pub end-mono : (start : ℕ) (len : ℕ → ℕ) (d e : ℕ) → d ≤ e → end_after start len d ≤ end_after start len e
unfolding end_after
end-mono start len d zero h = let z : d ≡ 0 = omega arith in rw z (le_refl start)
end-mono start len d (suc e) h = elim (dec_lt d (suc e)) [
  | yes l ↦ omega (arith, end-mono start len d e (omega arith))
  | no n ↦ let q : d ≡ suc e = omega arith in rw q (le_refl (end_after start len (suc e)))
]

-- lengths and codes that agree as far as there are levels
pub end_same : (start : ℕ) (f g : ℕ → ℕ) (d : ℕ) → ((i : ℕ) → i < d → f i ≡ g i) → end_after start f d ≡ end_after start g d
unfolding end_after
end_same start f g zero h = refl
end_same start f g (suc d) h = rw (end_same start f g d (λ i k. h i (omega arith)), h d (omega arith))

pub laid_same : (n : ℕ) (code code' len len' : ℕ → ℕ) → ((i : ℕ) → i < height n → code i ≡ code' i) → ((i : ℕ) → i < height n → len i ≡ len' i)
    → laid_out n code len ≡ laid_out n code' len'
unfolding laid_out
laid_same n code code' len len' p q =
    rw (
      filled-same max_height code code' (height n) p,
      filled-same (max_height + 1) (end_after (parts_start n) len) (end_after (parts_start n) len') (suc (height n))
          (λ i l. end_same (parts_start n) len len' i (λ k m. q k (omega arith))),
    )

pub entered-none : (n : ℕ) (code len : ℕ → ℕ) → no_levels n ≡ entered n code len 0
unfolding filled end_after
entered-none n code len = refl

pub entered-next : (n : ℕ) (code len : ℕ → ℕ) (d c e : ℕ) → c ≡ code d → e ≡ end_after (parts_start n) len (suc d)
    → record { pins = n; codes = set (entered n code len d).codes d c; ends = set (entered n code len d).ends (d + 1) e } ≡ entered n code len (d + 1)
unfolding filled
entered-next n code len d c e p q = rw (p, q, add-one d)

pub entered_all : (n : ℕ) (code len : ℕ → ℕ) → entered n code len (height n) ≡ laid_out n code len
unfolding laid_out
entered_all n code len = refl

-- the entries of a level
pub record At (levels : Levels) (d code start len : ℕ) : Type 0 where
  pub code_is : get_or levels.codes d 0 ≡ code
  pub starts : get_or levels.ends d 0 ≡ start
  pub ends_at : get_or levels.ends (d + 1) 0 ≡ start + len

module _ (n : ℕ) (code len : ℕ → ℕ) where
  pub laid-pins : (laid_out n code len).pins ≡ n
  unfolding laid_out
  laid-pins = refl

  module _ (few : n < 2 ^ 16) where
    pub laid_end : (d : ℕ) → d ≤ height n → get_or (laid_out n code len).ends d 0 ≡ end_after (parts_start n) len d
    unfolding laid_out
    laid_end d h = get_or-filled (max_height + 1) (end_after (parts_start n) len) (suc (height n)) d (omega arith) (omega (arith, height_fits n few))

    pub laid-at : (d : ℕ) → d < height n → At (laid_out n code len) d (code d) (end_after (parts_start n) len d) (len d)
    unfolding laid_out
    laid-at d h = record {
      code_is = get_or-filled max_height code (height n) d h (height_fits n few);
      starts = laid_end d (omega arith);
      ends_at = rw (add-one d) (laid_end (suc d) (omega arith) ∙ end-next (parts_start n) len d);
    }

    -- levels of lengths below 2 ^ 32, of fixed codes as long as their values need, that end with the bytes fit them
    pub laid-fits : (s : List ℕ) → ((d : ℕ) → d < height n → (len d < 2 ^ 32) × (is_exact (kind_of (code d)) (count_of n d) (len d) ≡ true))
        → end_after (parts_start n) len (height n) ≡ length s → Fits (laid_out n code len) s
    laid-fits s each e = record {
      height_fits = rw laid-pins (height_fits n few);
      in_order = λ d h. let k = laid-at d (rw laid-pins at h) in omega (arith, k.starts, k.ends_at);
      inside = λ d h. let m = rw laid-pins at h in omega (arith, (laid-at d m).ends_at, within d m);
      short = λ d h. let m = rw laid-pins at h in let k = laid-at d m in omega (arith, k.starts, k.ends_at, (each d m).0);
      exact = λ d h. let m = rw laid-pins at h in rw (laid-pins, (laid-at d m).code_is, part_length d m) (each d m).1;
    }
      where
        within : (d : ℕ) → d < height n → end_after (parts_start n) len d + len d ≤ length s
        within d m = omega (arith, end-next (parts_start n) len d, end-mono (parts_start n) len (suc d) (height n) m)

        part_length : (d : ℕ) → d < height n → length (part_of (laid_out n code len).ends s d) ≡ len d
        part_length d m =
            let k = laid-at d m in
            let start = end_after (parts_start n) len d in
            rw (k.starts, k.ends_at, add-sub_cancel_left start (len d)) (length-take-le (len d) (drop start s) (rw length-drop (omega (arith, within d m))))
