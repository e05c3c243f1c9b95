-- Levels decoded one after the other into the entries of their nodes: what all levels are decoded to is what each one is, and what is
-- fetched for the nodes.
use Rattle.std.proofs.Common.{◌≡◌, refl, sym, ap, ◌∙◌, true, false, List, [], ◌++◌, append_assoc, append-nil, ℕ, zero, suc, ◌+◌, ◌-◌, ◌*◌, ◌^◌, ◌≤◌, ◌<◌}
use Rattle.std.proofs.Common.{min, le_refl, zero-add, suc-add, add-one, arith, length, take, drop, length-append, length-drop, drop_of_length-le}
use Rattle.std.proofs.Common.{length-take-le, take_all, take_at, drop_at, pow_pos}
use mathlib.Core.Bool.{false≢true}
use native.Mathlib.Nat.{pow-succ'}
use native.Mathlib.Decide.{dec_lt, ℕ_discrete}
use lib.Seq.{take-append-le, drop-append-le}
use borrow.Rule.Slice.PartMut.{mid_of, put_mid, same_len_mid, mid_len, Post-is}
use Rattle.codes.specs.Decode.{Decoded, all, undecoded, decoded, is_decoded, decoded_or0}
use Rattle.codes.proofs.Promises.{decode-fetches}
use Rattle.tree.specs.declared.nodes.Levels.{Levels}
use Rattle.tree.specs.Shape.{height}
use Rattle.tree.specs.Levels.{count_of, code_of, part_of, level_values}
use Rattle.tree.specs.DecodedLevels.{decoded_at, joined, decoded_to, decoded_levels}
use Rattle.tree.specs.Merged.{KnownValues}
use Rattle.tree.proofs.Heights.{height_bound, level-starts}
use Rattle.tree.proofs.NodeFetches.{count_is}
use Rattle.tree.proofs.LevelValues.{level-inside, known_from}

-- what is decoded, as its buffer has it
pub all_of : (n : ℕ) (x : Decoded) → is_decoded x ≡ true → x ≡ all (decoded_or0 n x)
all_of n (all vs) e = refl
all_of n undecoded e = absurd (false≢true e)

not-all : (x : Decoded) → is_decoded x ≡ false → x ≡ undecoded
not-all (all vs) e = absurd (false≢true (sym e))
not-all undecoded e = refl

-- the entries up to the end of a part that is put back
front-put : (a e b : ℕ) (xs ys : List ℕ) → a ≤ e → e ≡ min (length xs) b → length ys ≡ e - a → take b (put_mid a (e - a) xs ys) ≡ take a xs ++ ys
front-put a e b xs ys h m l =
    let front = take a xs ++ ys in
    let whole : put_mid a (e - a) xs ys ≡ front ++ drop e xs = rw (Post-is a e xs h) (sym (append_assoc (take a xs) ys (drop e xs))) in
    let len : length front ≡ e = rw (length-append (take a xs) ys, length-take-le a xs (omega arith), l) (omega arith) in
    elim (dec_lt (length xs) b) [
      | yes k ↦
          let none = drop_of_length-le xs {i = e} (omega arith) in
          ap (take b) (whole ∙ ap (λ (zs : List ℕ). front ++ zs) none ∙ append-nil front) ∙ take_all b front (omega arith)
      | no k ↦ ap (take b) whole ∙ take_at front (drop e xs) b (omega arith)
    ]

-- a part of the first of two lists
part-before : (a c : ℕ) (us ws : List ℕ) → a + c ≤ length us → take c (drop a (us ++ ws)) ≡ take c (drop a us)
part-before a c us ws h = rw (drop-append-le a us ws (omega arith)) (take-append-le c (drop a us) ws (rw length-drop (omega arith)))

module _ (levels : Levels) (s : List ℕ) where
  abbrev n : ℕ
  n = levels.pins

  -- ---- one level more

  undecoded-stays : (k m : ℕ) → decoded_to levels s k ≡ undecoded → decoded_to levels s (m + k) ≡ undecoded
  unfolding decoded_to
  undecoded-stays k zero e = rw (zero-add k) e
  undecoded-stays k (suc m) e = rw (suc-add m k, undecoded-stays k m e)

  module _ (d count : ℕ) (us : List ℕ) (x : Decoded) (before : decoded_to levels s d ≡ all us) (is : decoded_at levels s d ≡ x) where
    decoded-next : is_decoded x ≡ true → decoded_to levels s (d + 1) ≡ all (us ++ decoded_or0 count x)
    unfolding decoded_to
    decoded-next e = rw (add-one d, before, is) (ap (joined (all us)) (all_of count x e))

    -- where it is not decoded, not all are
    decoded-not : is_decoded x ≡ false → (k : ℕ) → d < k → decoded_to levels s k ≡ undecoded
    unfolding decoded_to
    decoded-not e k h =
        let split : k - suc d + suc d ≡ k = omega arith in
        rw split at (undecoded-stays (suc d) (k - suc d) (rw (before, is, not-all x e)))

  -- ---- each level

  record Joined (k : ℕ) (vs : List ℕ) : Type 0 where
    front : List ℕ
    last : List ℕ
    before : decoded_to levels s k ≡ all front
    level : decoded_at levels s k ≡ all last
    are : vs ≡ front ++ last

  joined-told : (k : ℕ) (vs : List ℕ) → decoded_to levels s (suc k) ≡ all vs → Joined k vs
  unfolding decoded_to
  joined-told k vs e = go (decoded_to levels s k) (decoded_at levels s k) refl refl e
    where
      go : (x y : Decoded) → decoded_to levels s k ≡ x → decoded_at levels s k ≡ y → joined x y ≡ all vs → Joined k vs
      go (all us) (all ws) p q r = record { front = us; last = ws; before = p; level = q; are = cc }
      go (all us) undecoded p q r = absurd (let z : ◌≡◌ {A = ℕ} 0 1 = cc in omega arith)
      go undecoded y p q r = absurd (let z : ◌≡◌ {A = ℕ} 0 1 = cc in omega arith)

  decoded-length : (k : ℕ) (ws : List ℕ) → decoded_at levels s k ≡ all ws → length ws ≡ count_of n k
  decoded-length k ws e = (decode-fetches (code_of levels k) (count_of n k) (part_of levels.ends s k) ws e).0

  both : (m p : ℕ) → 1 ≤ p → p ≤ m → min m (p - 1) + min (m + 1 - p) p ≡ min m (2 * p - 1)
  both m p h k = omega arith

  -- the first k levels have as many values as nodes
  decoded-count : (k : ℕ) (vs : List ℕ) → k ≤ height n → decoded_to levels s k ≡ all vs → length vs ≡ min n (2 ^ k - 1)
  unfolding decoded_to
  decoded-count zero vs h e = let z : vs ≡ [] = cc in rw z (omega arith)
  decoded-count (suc k) vs h e =
      let j = joined-told k vs e in
      let f = decoded-count k j.front (omega arith) j.before in
      let l = decoded-length k j.last j.level in
      rw (j.are, length-append j.front j.last, f, l, count_is n k, pow-succ' 2 k) (both n (2 ^ k) (pow_pos k) (level-starts n k h))

  decoded-each : (k : ℕ) (vs : List ℕ) → k ≤ height n → decoded_to levels s k ≡ all vs → (d : ℕ) → d < k
      → decoded_at levels s d ≡ all (take (count_of n d) (drop (2 ^ d - 1) vs))
  decoded-each zero vs h e d few = absurd (omega arith)
  decoded-each (suc k) vs h e d few =
      let j = joined-told k vs e in
      let f = decoded-count k j.front (omega arith) j.before in
      let m = decoded-length k j.last j.level in
      elim (ℕ_discrete d k) [
        | yes z ↦
            let low = level-starts n k h in
            let len : length j.front ≡ 2 ^ k - 1 = omega arith in
            rw z (j.level ∙ ap all (sym (ap (λ (xs : List ℕ). take (count_of n k) (drop (2 ^ k - 1) xs)) j.are
            ∙ ap (take (count_of n k)) (drop_at j.front j.last (2 ^ k - 1) len) ∙ take_all (count_of n k) j.last (omega arith))))
        | no z ↦
            let above : d < k = omega arith in
            let in-front : 2 ^ d - 1 + count_of n d ≤ length j.front = rw f (level-inside n d k above (omega arith)) in
            decoded-each k j.front (omega arith) j.before d above
            ∙ ap all (sym (ap (λ (xs : List ℕ). take (count_of n d) (drop (2 ^ d - 1) xs)) j.are
            ∙ part-before (2 ^ d - 1) (count_of n d) j.front j.last in-front))
      ]

  -- ---- all levels

  module _ (values : List ℕ) (e : decoded_levels levels s ≡ all values) where
    pub values-count : length values ≡ n
    values-count = decoded-count (height n) values (omega arith) e ∙ omega (arith, height_bound n)

    pub decoded-values : (d : ℕ) → d < height n → decoded_at levels s d ≡ all (level_values values d)
    decoded-values d few = rw values-count (decoded-each (height n) values (omega arith) e d few)

    -- by their number, as the code has it
    pub level-decodes : (d : ℕ) → d < height n → let vs = level_values values d in decoded (code_of levels d) (length vs) (part_of levels.ends s d) ≡ all vs
    level-decodes d h =
        let own = decoded-values d h in
        ap (λ (m : ℕ). decoded (code_of levels d) m (part_of levels.ends s d)) (decoded-length d (level_values values d) own) ∙ own

    pub known_values : KnownValues levels s values
    known_values = known_from levels s values values-count decoded-values

-- ---- the entries of a level's nodes

pub record LevelAt (levels : Levels) (values : List ℕ) (d first last : ℕ) : Type 0 where
  same : length values ≡ levels.pins
  few : d < height levels.pins
  starts : first ≡ 2 ^ d
  ends : last ≡ first - 1 + count_of levels.pins d

pub entries-at : (levels : Levels) (was now : List ℕ) {d h first count : ℕ} → levels.pins ≡ length was → length now ≡ length was
    → d < h → h ≡ height (length was) → first ≡ 2 ^ d → count ≡ count_of (length was) d → LevelAt levels now d first (first - 1 + count)
entries-at levels was now e kept below top starts count = record { same = kept ∙ sym e; few = rw e (omega arith); starts = starts; ends = rw (e, count) refl }

module _ {levels : Levels} {values : List ℕ} {d first last : ℕ} (at : LevelAt levels values d first last) where
  abbrev own : List ℕ
  own = mid_of (first - 1) (last - (first - 1)) values

  pub level-end : last ≤ length values
  level-end = omega (arith, at.same, at.starts, at.ends, level-inside levels.pins d (height levels.pins) at.few (le_refl (height levels.pins)))

  own-length : length own ≡ last - (first - 1)
  own-length = mid_len (first - 1) last values level-end

  pub level-few : levels.pins < 65536 → length own < 2 ^ 32
  level-few h = omega (arith, own-length, level-end, at.same)

  pub level-kept : (ys : List ℕ) → length ys ≡ length own → length (put_mid (first - 1) (last - (first - 1)) values ys) ≡ levels.pins
  level-kept ys h = same_len_mid (first - 1) (last - (first - 1)) values ys h ∙ at.same

  module _ (s : List ℕ) (before : decoded_to levels s d ≡ all (take (2 ^ d - 1) values)) where
    abbrev told : Decoded
    told = decoded (code_of levels d) (length own) (part_of levels.ends s d)

    own-told : decoded_at levels s d ≡ told
    own-told =
        let count : length own ≡ count_of levels.pins d = own-length ∙ omega (arith, at.ends) in
        ap (λ (m : ℕ). decoded (code_of levels d) m (part_of levels.ends s d)) (sym count)

    -- where the level is decoded, its values follow those of the levels above
    pub level-added : {ys : List ℕ} → is_decoded told ≡ true → ys ≡ decoded_or0 (length own) told → length ys ≡ length own
        → decoded_to levels s (d + 1) ≡ all (take (2 ^ (d + 1) - 1) (put_mid (first - 1) (last - (first - 1)) values ys))
    level-added {ys} e is l =
        let deeper : 2 ^ (d + 1) ≡ 2 * 2 ^ d = rw add-one (pow-succ' 2 d) in
        let low = level-starts levels.pins d at.few in
        let end : last ≡ min (length values) (2 ^ (d + 1) - 1) = omega (arith, at.same, at.starts, at.ends, deeper, count_is levels.pins d, pow_pos d) in
        let front = front-put (first - 1) last (2 ^ (d + 1) - 1) values ys (omega (arith, at.ends)) end (l ∙ own-length) in
        decoded-next levels s d (length own) (take (2 ^ d - 1) values) told before own-told e
        ∙ ap (λ (zs : List ℕ). all (take (2 ^ d - 1) values ++ zs)) (sym is) ∙ rw (← at.starts) (ap all (sym front))

    pub level-missed : is_decoded told ≡ false → decoded_levels levels s ≡ undecoded
    level-missed e = decoded-not levels s d (length own) (take (2 ^ d - 1) values) told before own-told e (height levels.pins) at.few
