-- Each entry of the table of marked cases holds, since the test of them all computes to true.
use mathlib.Core.Path.{◌≡◌, refl, ap₂}
use mathlib.Core.Bool.{Bool}
use mathlib.Core.List.{List, [], ◌∷◌}
use Rattle.std.specs.Prelude.{Option, None, Some}
use Prim.Native.Nat.{ℕ, zero, suc, ◌<◌}
use native.Mathlib.Omega.{arith}
use lib.Dec.{T, eqb, eqb→eq}
use lib.ListN.{length, get_or, replicate, length-replicate}
use borrow.Author.Tests.{lt-ltb, ne_eqb}
use mir.Facts.{and_yes}
use Rattle.codes.specs.Lists.{same}
use Rattle.tree.specs.Shape.{height, root_place}
use Rattle.tree.specs.declared.walking.Found.{Found}
use Rattle.tree.specs.Walks.{found}
use Rattle.tree.specs.Outcomes.{Outcome, gives, refuses, test, verdict}
use Rattle.strip.specs.Layout.{max_pins}
use Rattle.strip.specs.Calls.{pack_of, pack_output, access_of, search_of, up_to_of, sweep_of, sweep_output, check_of, unpack_of, unpack_output, repeat_of, step_of, next_of}
use Rattle.strip.specs.Marked.{Case, packs, accesses, searches, up_tos, sweeps, checks, unpacks, repeats, steps, root, tall, Says, same_option, same_outcome, same_found, passes, all, marked, marked-pass}
use lib.Ieee.Bits.{is_true}
use Rattle.codes.proofs.Promises.{list-laws}

module _ {A : Type 0} (equal : A → A → Bool) (same-values : (a b : A) → T (equal a b) → a ≡ b) where
  same-options : (x y : Option A) → T (same_option equal x y) → x ≡ y
  same-options None None h = refl
  same-options None (Some b) h = absurd h
  same-options (Some a) None h = absurd h
  same-options (Some a) (Some b) h = rw (same-values a b h)

  same-outcomes : (x y : Outcome A) → T (same_outcome equal x y) → x ≡ y
  same-outcomes (gives a) (gives b) h = rw (same-values a b h)
  same-outcomes (gives a) (refuses q d) h = absurd h
  same-outcomes (refuses r c) (gives b) h = absurd h
  same-outcomes (refuses r c) (refuses q d) h = let b = and_yes (eqb r q) (eqb c d) h in rw (eqb→eq r q b.0, eqb→eq c d b.1)

same-found : (f g : Found) → T (same_found f g) → f ≡ g
same-found f g h = let b = and_yes (eqb f.value g.value) (eqb f.nodes g.nodes) h in ap₂ found (eqb→eq f.value g.value b.0) (eqb→eq f.nodes g.nodes b.1)

says : (c : Case) → T (passes c) → Says c
says (packs xs out r after) h =
    let b = and_yes (same_outcome eqb (pack_of xs (length out)) r) (same (pack_output xs out) after) h in
    (same-outcomes eqb eqb→eq (pack_of xs (length out)) r b.0, list-laws.same_lists (pack_output xs out) after (is_true _ b.1))
says (accesses s i r) h = same-outcomes same_found same-found (access_of s i) r h
says (searches s t r) h = same-outcomes same_found same-found (search_of s t) r h
says (up_tos s t r) h = same-outcomes same_found same-found (up_to_of s t) r h
says (sweeps s ts out r after) h =
    let b = and_yes (same_outcome eqb (sweep_of s ts (length out)) r) (same (sweep_output s ts out) after) h in
    (same-outcomes eqb eqb→eq (sweep_of s ts (length out)) r b.0, list-laws.same_lists (sweep_output s ts out) after (is_true _ b.1))
says (checks s r) h = same-outcomes eqb eqb→eq (check_of s) r h
says (unpacks s out r after) h =
    let b = and_yes (same_outcome eqb (unpack_of s (length out)) r) (same (unpack_output s out) after) h in
    (same-outcomes eqb eqb→eq (unpack_of s (length out)) r b.0, list-laws.same_lists (unpack_output s out) after (is_true _ b.1))
says (repeats s r x) h = same-outcomes (same_option eqb) (same-options eqb eqb→eq) (repeat_of s r) x h
says (steps s i x j) h =
    let b = and_yes (same_outcome (same_option same_found) (step_of s i) x) (eqb (next_of s i) j) h in
    (same-outcomes (same_option same_found) (same-options same_found same-found) (step_of s i) x b.0, eqb→eq (next_of s i) j b.1)
says (root n p) h = eqb→eq (root_place n) p h
says (tall n k) h = eqb→eq (height n) k h

each : (cs : List Case) → T (all cs) → (i : ℕ) → i < length cs → Says (get_or cs i (root 1 1))
each [] h i l = absurd (omega arith)
each (c ∷ cs) h zero l = says c (and_yes (passes c) (all cs) h).0
each (c ∷ cs) h (suc i) l = each cs (and_yes (passes c) (all cs) h).1 i (omega arith)

pub marked-says : (i : ℕ) → i < length marked → Says (get_or marked i (root 1 1))
marked-says = each marked (rw marked-pass tt)

-- the example of refusal 2: a list over 65,535
too_many : (xs out : List ℕ) → max_pins < length xs → Says (packs xs out (refuses 2 0) out)
unfolding pack_of pack_output verdict test
too_many xs out h = rw (ne_eqb (length xs) 0 (λ e. omega arith), lt-ltb max_pins (length xs) h) (refl, refl)

pub zeros-refused : (out : List ℕ) → Says (packs (replicate 65536 0) out (refuses 2 0) out)
zeros-refused out = too_many (replicate 65536 0) out (rw (length-replicate {A = ℕ} 65536 0) (omega arith))
