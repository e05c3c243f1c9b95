-- The values that nodes store: how many, how large, how many on a level; and that a fetch from their levels gives them back.
use Rattle.std.proofs.Common.{◌≡◌, refl, sym, ap, ◌∙◌, Bool, true, false, cond, List, ℕ, zero, suc, ◌+◌, ◌-◌, ◌*◌, ◌/◌, ◌%◌, ◌^◌, ◌≤◌, ◌<◌, min, arith}
use Rattle.std.proofs.Common.{length, drop, get_or, length-take, length-drop, eqb, ltb, get_or-take, get_or-drop, pow_pos, pow_mono}
use native.Mathlib.Nat.{pow-succ'}
use native.Mathlib.Decide.{dec_lt}
use lib.ListN.{get_or-eq_default}
use Rattle.codes.specs.Codes.{Within}
use Rattle.codes.specs.Fetch.{value}
use Rattle.codes.specs.Decode.{all, decoded}
use Rattle.codes.proofs.Promises.{decode-fetches, decode-back}
use Rattle.tree.specs.declared.nodes.Levels.{Levels}
use Rattle.tree.specs.Shape.{height, rank}
use Rattle.tree.specs.Stored.{time_of, time_above, difference, stored, stored_from, stored_values}
use Rattle.tree.specs.Levels.{count_of, level_of, code_of, part_of, level_values, fetched_at, Stores}
use Rattle.tree.specs.DecodedLevels.{decoded_at}
use Rattle.tree.specs.Merged.{KnownValues}
use Rattle.tree.proofs.Heights.{digits, height-mono, level-starts}
use Rattle.tree.proofs.NodeFetches.{count_is}

length_from : (xs : List ℕ) (k v : ℕ) → length (stored_from xs k v) ≡ k
unfolding stored_from
length_from xs zero v = refl
length_from xs (suc k) v = ap suc (length_from xs k (suc v))

get_or-from : (xs : List ℕ) (k v j : ℕ) → j < k → get_or (stored_from xs k v) j 0 ≡ stored xs (v + j)
unfolding stored_from
get_or-from xs zero v j h = absurd (omega arith)
get_or-from xs (suc k) v zero h = ap (stored xs) (omega arith)
get_or-from xs (suc k) v (suc j) h = get_or-from xs k (suc v) j (omega arith) ∙ ap (stored xs) (omega arith)

pub length-stored : (xs : List ℕ) → length (stored_values xs) ≡ length xs
length-stored xs = length_from xs (length xs) 1

pub get_or-stored : (xs : List ℕ) (i : ℕ) → i < length xs → get_or (stored_values xs) i 0 ≡ stored xs (suc i)
get_or-stored xs i h = get_or-from xs (length xs) 1 i h ∙ ap (stored xs) (omega arith)

difference_below : (v above time b : ℕ) → above < b → time < b → difference v above time < b
difference_below v above time b h k = go (eqb (v % 2) 0)
  where
    go : (even : Bool) → cond even (above - time) (time - above) < b
    go true = omega arith
    go false = omega arith

stored-below : (xs : List ℕ) (w v : ℕ) → Within w xs → stored xs v < 2 ^ w
unfolding stored time_above time_of
stored-below xs w v h = difference_below v (time_above xs v) (time_of xs v) (2 ^ w) (above (ltb v 2)) (h (rank (length xs) v))
  where
    above : (root : Bool) → cond root 0 (time_of xs (v / 2)) < 2 ^ w
    above true = pow_pos w
    above false = h (rank (length xs) (v / 2))

pub stored-within : (w : ℕ) (xs : List ℕ) → Within w xs → Within w (stored_values xs)
stored-within w xs h j = elim (dec_lt j (length xs)) [
  | yes l ↦ rw (get_or-stored xs j l) (stored-below xs w (suc j) h)
  | no n ↦ rw (get_or-eq_default (stored_values xs) 0 {n = j} (rw (length-stored xs) (omega arith))) (pow_pos w)
]

-- ---- a level's

pub level-at : (values : List ℕ) (d j : ℕ) → j < count_of (length values) d → get_or (level_values values d) j 0 ≡ get_or values (2 ^ d - 1 + j) 0
level-at values d j h = get_or-take (count_of (length values) d) (drop (2 ^ d - 1) values) j 0 h ∙ get_or-drop (2 ^ d - 1) values j 0

pub level_count : (values : List ℕ) (d : ℕ) → length (level_values values d) ≡ count_of (length values) d
level_count values d = rw (length-take, length-drop, count_is (length values) d) (go (length values) (2 ^ d) (pow_pos d))
  where
    go : (n p : ℕ) → 1 ≤ p → min (min (n + 1 - p) p) (n - (p - 1)) ≡ min (n + 1 - p) p
    go n p h = omega arith

pub level_within : (w : ℕ) (values : List ℕ) (d : ℕ) → Within w values → Within w (level_values values d)
level_within w values d h i = elim (dec_lt i (count_of (length values) d)) [
  | yes k ↦ rw (level-at values d i k) (h (2 ^ d - 1 + i))
  | no n ↦ rw (get_or-eq_default (level_values values d) 0 {n = i} (omega (arith, level_count values d))) (pow_pos w)
]

pub level-half : (values : List ℕ) (d : ℕ) → 2 * length (level_values values d) ≤ length values + 1
level-half values d = omega (arith, level_count values d, count_is (length values) d)

pub level-above : (values : List ℕ) (d : ℕ) → min (length values) (2 ^ d - 1) + length (level_values values d) ≤ min (length values) (2 ^ suc d - 1)
level-above values d =
    go (length values) (2 ^ d) (2 ^ suc d) (length (level_values values d)) (pow_pos d) (pow-succ' 2 d)
    (omega (arith, level_count values d, count_is (length values) d))
  where
    go : (n p q m : ℕ) → 1 ≤ p → q ≡ 2 * p → m ≤ min (n + 1 - p) p → min n (p - 1) + m ≤ min n (q - 1)
    go n p q m h e l = omega arith

-- a level among the first k of the tree has all its nodes among theirs
pub level-inside : (n d k : ℕ) → d < k → k ≤ height n → 2 ^ d - 1 + count_of n d ≤ min n (2 ^ k - 1)
level-inside n d k few high = go n (2 ^ d) (2 ^ suc d) (2 ^ k) (level-starts n d (omega arith)) (pow_pos d) (pow-succ' 2 d) (pow_mono few)
  where
    go : (n p q r : ℕ) → p ≤ n → 1 ≤ p → q ≡ 2 * p → q ≤ r → p - 1 + (suc (min n (q - 1)) - p) ≤ min n (r - 1)
    go n p q r a b c d = omega arith

pub level-length : (xs : List ℕ) (d : ℕ) → length (level_values (stored_values xs) d) ≡ count_of (length xs) d
level-length xs d = level_count (stored_values xs) d ∙ ap (λ (n : ℕ). count_of n d) (length-stored xs)

-- a node stands on its level, and the level in the tree
pub on-level : (n v : ℕ) → 1 ≤ v → v ≤ n → let d = level_of v in (d < height n) × (2 ^ d ≤ v) × (v - 2 ^ d < count_of n d)
on-level n v h k =
    let t = digits v h in
    let e : level_of v ≡ t.top = omega (arith, t.is) in
    rw e (omega (arith, t.is, height-mono v n k), t.least, omega (arith, t.least, t.below))

-- where each level is decoded to its values, these are what is fetched for the nodes
pub known_from : (levels : Levels) (s values : List ℕ) → length values ≡ levels.pins
    → ((d : ℕ) → d < height levels.pins → decoded_at levels s d ≡ all (level_values values d)) → KnownValues levels s values
unfolding fetched_at
known_from levels s values e each v h k =
    let d = level_of v in
    let on = on-level levels.pins v h (omega arith) in
    let j = v - 2 ^ d in
    let i : 2 ^ d - 1 + j ≡ v - 1 = omega (arith, on.1, pow_pos d) in
    (decode-fetches (code_of levels d) (count_of levels.pins d) (part_of levels.ends s d) (level_values values d) (each d on.0)).1 j on.2
    ∙ ap value (level-at values d j (rw e on.2) ∙ ap (λ (m : ℕ). get_or values m 0) i)

-- ---- levels that hold what a list's tree stores

pub decoded-back : {levels : Levels} {s xs : List ℕ} → Stores levels s xs → (d : ℕ) → d < height (length xs)
    → decoded_at levels s d ≡ all (level_values (stored_values xs) d)
decoded-back {levels} {s} {xs} w d few =
    ap (λ (n : ℕ). decoded (code_of levels d) (count_of n d) (part_of levels.ends s d)) w.pins_are
    ∙ ap (λ (n : ℕ). decoded (code_of levels d) n (part_of levels.ends s d)) (sym (level-length xs d))
    ∙ ap (decoded (code_of levels d) (length (level_values (stored_values xs) d))) (w.parts_are d few)
    ∙ decode-back (code_of levels d) (level_values (stored_values xs) d) (w.holds d few)

pub fetched-stored : (levels : Levels) (s xs : List ℕ) → Stores levels s xs → (v : ℕ) → 1 ≤ v → v ≤ length xs → fetched_at levels s v ≡ value (stored xs v)
fetched-stored levels s xs w v h k =
    let last : suc (v - 1) ≡ v = omega arith in
    known_from levels s (stored_values xs) (length-stored xs ∙ sym w.pins_are) (λ d b. decoded-back w d (rw w.pins_are at b)) v h (rw (length-stored xs) k)
    ∙ ap value (get_or-stored xs (v - 1) (omega arith) ∙ ap (stored xs) last)
