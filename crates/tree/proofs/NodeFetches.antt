-- What is fetched for a node, by the number of levels above it.
use mathlib.Core.Path.{◌≡◌, sym, ◌∙◌}
use mathlib.Core.Bool.{true}
use mathlib.Core.List.{List}
use Prim.Native.Nat.{ℕ, ◌+◌, ◌-◌, ◌*◌, ◌^◌, ◌≤◌, ◌<◌, min}
use native.Mathlib.Nat.{pow-succ'}
use native.Mathlib.Omega.{arith}
use lib.ListN.{length, get_or}
use lib.Pow.{pow_pos, pow_mono}
use Rattle.codes.specs.Codes.{kind_of, is_exact}
use Rattle.codes.specs.Fetch.{Fetched, fetched, Inside}
use Rattle.codes.proofs.Promises.{exact-parts}
use Rattle.tree.specs.declared.nodes.Levels.{Levels}
use Rattle.tree.specs.Levels.{count_of, level_of, code_of, part_of, fetched_at, Fits}
use Rattle.tree.proofs.Heights.{height-is, height-above, height_bound}

-- how many nodes the level below d others has
pub count_is : (n d : ℕ) → count_of n d ≡ min (n + 1 - 2 ^ d) (2 ^ d)
count_is n d = rw (pow-succ' 2 d) (omega (arith, pow_pos d))

-- the level of a node
pub level-is : (d v : ℕ) → 2 ^ d ≤ v → v < 2 * 2 ^ d → level_of v ≡ d
level-is d v lo hi = omega (arith, height-is d v lo (omega arith))

-- a node's place on its level is below the number of nodes there
pub index_below : (n d v first : ℕ) → first ≡ 2 ^ d → 2 ^ d ≤ v → v < 2 * 2 ^ d → v ≤ n → v - first < count_of n d
index_below n d v first e lo hi k = rw (count_is n d) (omega arith)

-- from the level below d others, which begins with node `first`
pub fetched-from : (at : Levels) (s : List ℕ) (d v first : ℕ) → first ≡ 2 ^ d → 2 ^ d ≤ v → v < 2 * 2 ^ d
    → fetched_at at s v ≡ fetched (code_of at d) (count_of at.pins d) (v - first) (part_of at.ends s d)
unfolding fetched_at
fetched-from at s d v first e lo hi = rw (e, level-is d v lo hi)

-- what a fetch finds there
pub found-at : (at : Levels) (s : List ℕ) (d v : ℕ) {first count : ℕ} {bytes : List ℕ} {x : Fetched} → first ≡ 2 ^ d → 2 ^ d ≤ v → v < 2 * 2 ^ d
    → count ≡ count_of at.pins d → bytes ≡ part_of at.ends s d → x ≡ fetched (code_of at d) count (v - first) bytes → fetched_at at s v ≡ x
found-at at s d v {first} e lo hi n p x = fetched-from at s d v first e lo hi ∙ sym (rw (n, p) at x)

-- a level that has a node lies in the bytes, in a fixed code exactly as long as its values need
pub record Level (at : Levels) (s : List ℕ) (d : ℕ) : Type 0 where
  pub deep : d < 16
  pub few : at.pins < 65536
  pub in_order : get_or at.ends d 0 ≤ get_or at.ends (d + 1) 0
  pub inside : get_or at.ends (d + 1) 0 ≤ length s
  pub exact : is_exact (kind_of (code_of at d)) (count_of at.pins d) (length (part_of at.ends s d)) ≡ true

pub pins-bound : (at : Levels) (s : List ℕ) → Fits at s → at.pins < 65536
pins-bound at s f = omega (arith, height_bound at.pins, pow_mono f.height_fits)

pub level-fits : {at : Levels} {s : List ℕ} {d v : ℕ} → Fits at s → 2 ^ d ≤ v → v ≤ at.pins → Level at s d
level-fits {at} {s} {d} f lo hi =
    let h = height-above at.pins d (omega arith) in
    record {
      deep = omega (arith, f.height_fits);
      few = pins-bound at s f;
      in_order = f.in_order d h;
      inside = f.inside d h;
      exact = f.exact d h;
    }

-- a fixed value of a node lies in its part
pub node-inside : {at : Levels} {s : List ℕ} {d : ℕ} → Level at s d → (j : ℕ) → j < count_of at.pins d
    → Inside (kind_of (code_of at d)) j (length (part_of at.ends s d))
node-inside {at} {s} {d} l j h = exact-parts.inside (kind_of (code_of at d)) (count_of at.pins d) (length (part_of at.ends s d)) j l.exact h
