-- A level merged with the list of the nodes above it, node by node from the last one on, and the ranks that its nodes and those above
-- then have.
use Rattle.std.proofs.Common.{◌≡◌, refl, sym, ap, ◌∙◌, List, ℕ, suc, ◌+◌, ◌-◌, ◌*◌, ◌/◌, ◌^◌, ◌≤◌, ◌<◌, min, zero-add, arith, add-one, length}
use Rattle.std.proofs.Common.{get_or, set, length-set, get_or-set_same, get_or-set_other}
use Rattle.std.proofs.Common.{pow_pos, pow_mono, lt-ltb}
use native.Mathlib.Nat.{pow-succ'}
use native.Mathlib.Decide.{dec_lt, ℕ_discrete}
use Rattle.codes.specs.Fetch.{value}
use Rattle.tree.specs.declared.nodes.Levels.{Levels}
use Rattle.tree.specs.Shape.{height, rank}
use Rattle.tree.specs.Levels.{fetched_at, level_values}
use Rattle.tree.specs.Outcomes.{gives}
use Rattle.tree.specs.Times.{under, times_in}
use Rattle.tree.specs.Merged.{KnownValues, KnownRanks, MergedFrom, Merges, AllMerged}
use Rattle.tree.proofs.Heights.{height_bound, level-starts}
use Rattle.tree.proofs.NodeFetches.{count_is}
use Rattle.tree.proofs.LevelValues.{level_count, level-at}
use Rattle.tree.proofs.NodeTimes.{time-above, time-step, time-right}
use Rattle.tree.proofs.LevelRanks.{rank-last, rank-above}
use Rattle.tree.proofs.Ranks.{rank_lt}

-- ---- one node more

module _ {before stored now : List ℕ} {above j : ℕ} (w : MergedFrom before stored above (suc j) now)
    (few : j < length stored) (full : length stored ≤ suc above) (room : above + length stored ≤ length before)
    (t : ℕ) (e : gives t ≡ under (suc above + j) (gives (get_or before (j / 2 * 2) 0)) (value (get_or stored j 0))) where
  nodes-next : (now' : List ℕ) → get_or now' (2 * j) 0 ≡ t → ((i : ℕ) → 2 * j < i → get_or now' i 0 ≡ get_or now i 0)
      → (i : ℕ) → j ≤ i → i < length stored
      → gives (get_or now' (2 * i) 0) ≡ under (suc above + i) (gives (get_or before (i / 2 * 2) 0)) (value (get_or stored i 0))
  nodes-next now' own same i h k = elim (ℕ_discrete i j) [
    | yes z ↦ rw (z, own) e
    | no z ↦ rw (same (2 * i) (omega arith)) (w.nodes i (omega arith) k)
  ]

  -- it, and the entry before it
  merged-next : 1 ≤ j → MergedFrom before stored above j (set (set now (2 * j) t) (2 * j - 1) (get_or before (j - 1) 0))
  merged-next one = record {
    kept = length-set now' (2 * j - 1) x ∙ length-set now (2 * j) t ∙ w.kept;
    unread = λ i h. other i (λ q. omega arith) (λ q. omega arith) ∙ w.unread i (omega arith);
    nodes = nodes-next (set now' (2 * j - 1) x)
        (get_or-set_other now' (2 * j - 1) (2 * j) x 0 (λ q. omega arith) ∙ get_or-set_same now (2 * j) t 0 (omega (arith, w.kept)))
        (λ i h. other i (λ q. omega arith) (λ q. omega arith));
    entries = λ r h k. elim (ℕ_discrete (suc r) j) [
      | yes z ↦
          let p : r + min (suc r) (length stored) ≡ 2 * j - 1 = omega arith in
          let q : j - 1 ≡ r = omega arith in
          rw (p, get_or-set_same now' (2 * j - 1) x 0 (rw (length-set now (2 * j) t, w.kept) (omega arith)), q)
      | no z ↦ other (r + min (suc r) (length stored)) (λ q. omega arith) (λ q. omega arith) ∙ w.entries r (omega arith) k
    ];
  }
    where
      x : ℕ
      x = get_or before (j - 1) 0

      now' : List ℕ
      now' = set now (2 * j) t

      other : (i : ℕ) → (i ≡ 2 * j → ⊥) → (i ≡ 2 * j - 1 → ⊥) → get_or (set now' (2 * j - 1) x) i 0 ≡ get_or now i 0
      other i a b = get_or-set_other now' (2 * j - 1) i x 0 b ∙ get_or-set_other now (2 * j) i t 0 a

-- for a right child, as the code does it; its parent is not read yet
pub merges-right : (stored was : List ℕ) (q : ℕ) → 2 * q + 1 < length stored → get_or was (2 * q) 0 + get_or stored (2 * q + 1) 0 < 2 ^ 32
    → Merges stored (2 * q + 2) (suc (2 * q)) was
    (set (set was (4 * q + 2) (get_or was (2 * q) 0 + get_or stored (2 * q + 1) 0)) (4 * q + 1) (get_or was (2 * q) 0))
merges-right stored was q few fits before above odd full room w =
    let t = get_or was (2 * q) 0 + get_or stored (2 * q + 1) 0 in
    let e₁ : 2 * q + 2 ≡ suc (suc (2 * q)) = omega arith in
    let e₂ : 2 * q + 1 ≡ suc (2 * q) = omega arith in
    let e₃ : suc (2 * q) / 2 * 2 ≡ 2 * q = omega arith in
    let e₄ : 2 * suc (2 * q) ≡ 4 * q + 2 = omega arith in
    let e₅ : 2 * suc (2 * q) - 1 ≡ 4 * q + 1 = omega arith in
    let e₆ : suc (2 * q) - 1 ≡ 2 * q = omega arith in
    let p = w.unread (2 * q) (omega arith) in
    let own : gives t ≡ under (suc above + suc (2 * q)) (gives (get_or before (suc (2 * q) / 2 * 2) 0)) (value (get_or stored (suc (2 * q)) 0)) =
    rw (e₃, ← p, ← e₂) (time-right (suc above + (2 * q + 1)) (get_or was (2 * q) 0) (get_or stored (2 * q + 1) 0) (omega arith) fits) in
    rw (e₅, e₄, e₆, ← p) at (merged-next (rw e₁ at w) (omega arith) full room t own (omega arith))

-- ---- the whole level

-- with the nodes above at their ranks, all are at theirs
merged-ranks : (levels : Levels) (s before stored now : List ℕ) (above j : ℕ) → suc above ≡ 2 ^ suc j → 1 ≤ length stored → length stored ≤ suc above
    → ((i : ℕ) → i < length stored → fetched_at levels s (suc above + i) ≡ value (get_or stored i 0))
    → MergedFrom before stored above 0 now → KnownRanks levels s above before → KnownRanks levels s (above + length stored) now
merged-ranks levels s before stored now above j full some few values w known v a b = elim (dec_lt above v) [
  | yes h ↦
      let i = v - suc above in
      let ev : suc above + i ≡ v = omega arith in
      let eh : v / 2 ≡ 2 ^ j + i / 2 = omega arith in
      let own : rank (above + length stored) v ≡ 2 * i =
      rank-last (above + length stored) (suc j) v (omega arith) (omega arith) (omega arith) b ∙ omega arith in
      let parent : rank above (v / 2) ≡ i / 2 * 2 =
      rank-last above j (v / 2) (omega (arith, pow_pos j)) (omega arith) (omega arith) (omega arith) ∙ omega arith in
      time-step (fetched_at levels s) v a
      ∙ rw (known (v / 2) (omega (arith, pow_pos j)) (omega arith), parent, own, rw ev at (values i (omega arith)))
      (sym (rw ev at (w.nodes i (omega arith) (omega arith))))
  | no h ↦
      let r = rank_lt above v a (omega arith) in
      let less : above + length stored - above ≡ length stored = omega arith in
      let own = rw less at (rank-above (above + length stored) above j v full (omega arith) (omega arith) a (omega arith)) in
      known v a (omega arith) ∙ rw own (ap gives (sym (w.entries (rank above v) (omega arith) r)))
]

-- ---- all levels

-- the first levels are merged, so many of them
pub record Grown (values before : List ℕ) (depth : ℕ) (now : List ℕ) : Type 0 where
  pub kept : length now ≡ length before
  pub listed : (levels : Levels) (s : List ℕ) → KnownValues levels s values → KnownRanks levels s (min (2 ^ depth - 1) (length values)) now

-- the root stores its time
root-time : (levels : Levels) (s values : List ℕ) → KnownValues levels s values → 1 ≤ length values → get_or values 0 0 < 2 ^ 32
    → times_in levels s 1 ≡ gives (get_or values 0 0)
root-time levels s values known h fits =
    let f : 1 / 2 ≡ 0 = omega arith in
    let own = known 1 (omega arith) h in
    rw (time-step (fetched_at levels s) 1 (omega arith), f, time-above (fetched_at levels s), own, zero-add, lt-ltb (get_or values 0 0) 4294967296 fits)

pub grown-root : (values now : List ℕ) → 1 ≤ length values → get_or now 0 0 ≡ get_or values 0 0 → get_or values 0 0 < 2 ^ 32 → Grown values now 1 now
grown-root values now some own fits = record {
  kept = refl;
  listed = λ levels s known v a b.
      let e : v ≡ 1 = omega arith in
      let n : min (2 ^ 1 - 1) (length values) ≡ 1 = omega arith in
      rw (e, n, rank-last 1 0 1 (omega arith) (omega arith) (omega arith) (omega arith), own) (root-time levels s values known some fits);
}

module _ (values : List ℕ) (depth : ℕ) (one : 1 ≤ depth) (deep : depth < height (length values)) where
  half : 2 ^ depth ≡ 2 * 2 ^ (depth - 1)
  half = let e : suc (depth - 1) ≡ depth = omega arith in rw e at (pow-succ' 2 (depth - 1))

  count : length (level_values values depth) ≡ min (length values + 1 - 2 ^ depth) (2 ^ depth)
  count = level_count values depth ∙ count_is (length values) depth

  -- the level has nodes, and those above it are an odd number
  pub level-sizes : (1 ≤ length (level_values values depth)) × (length (level_values values depth) ≤ suc (2 ^ depth - 1))
      × (2 ^ depth - 1 + length (level_values values depth) ≤ length values) × ((2 ^ depth - 1) / 2 * 2 + 1 ≡ 2 ^ depth - 1)
  level-sizes =
      let starts = level-starts (length values) depth deep in
      let some = pow_pos (depth - 1) in
      (omega (arith, count, half), omega (arith, count, half), omega (arith, count, half), omega (arith, half))

  pub grown-next : (before now after : List ℕ) → Grown values before depth now → MergedFrom now (level_values values depth) (2 ^ depth - 1) 0 after
      → Grown values before (depth + 1) after
  grown-next before now after g w = record { kept = w.kept ∙ g.kept; listed = listed }
    where
      listed : (levels : Levels) (s : List ℕ) → KnownValues levels s values → KnownRanks levels s (min (2 ^ (depth + 1) - 1) (length values)) after
      listed levels s known =
          let starts = level-starts (length values) depth deep in
          let some = pow_pos (depth - 1) in
          let sizes = level-sizes in
          let deeper : 2 ^ (depth + 1) ≡ 2 * 2 ^ depth = rw add-one (pow-succ' 2 depth) in
          let all : 2 ^ depth - 1 + length (level_values values depth) ≡ min (2 ^ (depth + 1) - 1) (length values) = omega (arith, count, half, deeper) in
          let e : suc (depth - 1) ≡ depth = omega arith in
          let full : suc (2 ^ depth - 1) ≡ 2 ^ suc (depth - 1) = rw e (omega (arith, half)) in
          let here : min (2 ^ depth - 1) (length values) ≡ 2 ^ depth - 1 = omega arith in
          rw all at (merged-ranks levels s now (level_values values depth) after (2 ^ depth - 1) (depth - 1) full sizes.0 sizes.1
          (λ i k.
          let p : suc (2 ^ depth - 1) + i - 1 ≡ 2 ^ depth - 1 + i = omega arith in
          rw (level-at values depth i (rw (← level_count values depth) k), ← p) (known (suc (2 ^ depth - 1) + i) (omega arith) (omega (arith, sizes.2))))
          w (rw here at (g.listed levels s known)))

pub grown-all : (values before : List ℕ) (depth : ℕ) (now : List ℕ) → Grown values before depth now → height (length values) ≤ depth → AllMerged values now
grown-all values before depth now g h levels s known =
    let all : min (2 ^ depth - 1) (length values) ≡ length values = omega (arith, height_bound (length values), pow_mono h) in
    rw all at (g.listed levels s known)
