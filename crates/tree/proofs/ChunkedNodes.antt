-- 9 carries a node of a chunked level: the first node on the way down whose fetch is refused, and of a fixed level none is.
use Rattle.std.proofs.Common.{◌≡◌, refl, Bool, true, false, cond, List, [], ◌∷◌, ℕ, zero, suc, ◌+◌, ◌-◌, ◌/◌, ◌%◌, ◌^◌, ◌≤◌, arith, eqb, ltb}
use Rattle.codes.specs.Fetch.{Fetched, value, outside}
use Rattle.codes.proofs.Promises.{exact-parts}
use Rattle.tree.specs.declared.nodes.Levels.{Levels}
use Rattle.tree.specs.Shape.{height}
use Rattle.tree.specs.Levels.{count_of, level_of, code_of, part_of, fetched_at, Fits, OnChunked}
use Rattle.tree.specs.Outcomes.{Outcome, gives, refuses, after, verdict}
use Rattle.tree.specs.Times.{under, node_time_in, node_time, times_in}
use Rattle.tree.specs.Walks.{Among, met}
use Rattle.tree.specs.Promises.{NineChunked}
use Rattle.tree.proofs.Heights.{height-zero, height-step}
use Rattle.tree.proofs.LevelValues.{on-level}
use Rattle.tree.proofs.Outcomes.{gives-refuses}
use Rattle.tree.proofs.Sweeps.{sweep-among}
use Rattle.tree.proofs.Walks.{walk-among}

-- a number with binary digits is not 0
some-pins : (v f : ℕ) → height v ≡ suc f → 1 ≤ v
some-pins zero f e = absurd (omega (arith, height-zero))
some-pins (suc v) f e = omega arith

-- where a value is fetched the time is given or refused with 10
not-nine : (v p d u : ℕ) → under v (gives p) (value d) ≡ refuses 9 u → ⊥
not-nine v p d u e = go (eqb (v % 2) 0) (ltb p d) (ltb (p + d) (2 ^ 32)) e
  where
    go : (left low fine : Bool) → cond left (cond low (refuses 10 v) (gives (p - d))) (cond fine (gives (p + d)) (refuses 10 v)) ≡ refuses 9 u → ⊥
    go true true fine e = let z : ◌≡◌ {A = ℕ} 10 9 = cc in omega arith
    go true false fine e = gives-refuses e
    go false low true e = gives-refuses e
    go false low false e = let z : ◌≡◌ {A = ℕ} 10 9 = cc in omega arith

module _ (levels : Levels) (s : List ℕ) (f : Fits levels s) where
  fetch-refused : (v : ℕ) → 1 ≤ v → v ≤ levels.pins → fetched_at levels s v ≡ outside → OnChunked levels v
  unfolding fetched_at
  fetch-refused v h k e =
      let d = level_of v in
      let on = on-level levels.pins v h k in
      (h, k, exact-parts.only_chunked (code_of levels d) (count_of levels.pins d) (v - 2 ^ d) (part_of levels.ends s d) (f.exact d on.0) on.2 e)

  -- by the first of the nodes above it, or by its own
  time-refused : (v u : ℕ) → v ≤ levels.pins → times_in levels s v ≡ refuses 9 u → OnChunked levels u
  unfolding node_time node_time_in
  time-refused v u = go (height v) v refl
    where
      own : (v : ℕ) → 1 ≤ v → v ≤ levels.pins → (above : Outcome ℕ) (x : Fetched) → fetched_at levels s v ≡ x → (above ≡ refuses 9 u → OnChunked levels u)
          → under v above x ≡ refuses 9 u → OnChunked levels u
      own v h k (refuses r w) x q up e = up e
      own v h k (gives p) outside q up e = let same : v ≡ u = cc in rw same at (fetch-refused v h k q)
      own v h k (gives p) (value d) q up e = absurd (not-nine v p d u e)

      go : (f v : ℕ) → height v ≡ f → v ≤ levels.pins → node_time_in f (fetched_at levels s) v ≡ refuses 9 u → OnChunked levels u
      go zero v q k e = absurd (gives-refuses e)
      go (suc f) v q k e =
          let one : 1 ≤ v = some-pins v f q in
          own v one k (node_time_in f (fetched_at levels s) (v / 2)) (fetched_at levels s v) refl
          (go f (v / 2) (omega (arith, height-step v one)) (omega arith)) e

  walk_refused : {A : Type 0} (vs : List ℕ) → Among levels.pins vs → (a : A) (u : ℕ) → met (times_in levels s) vs a ≡ refuses 9 u → OnChunked levels u
  unfolding met verdict Among
  walk_refused [] m a u e = absurd (gives-refuses e)
  walk_refused (v ∷ vs) m a u e = go (times_in levels s v) (time-refused v u m.1) (walk_refused vs m.2 a u) e
    where
      go : (o : Outcome ℕ) → (o ≡ refuses 9 u → OnChunked levels u) → (met (times_in levels s) vs a ≡ refuses 9 u → OnChunked levels u)
          → after o (λ _. met (times_in levels s) vs a) ≡ refuses 9 u → OnChunked levels u
      go (gives x) here later e = later e
      go (refuses r c) here later e = here (let p : r ≡ 9 = cc in let q : c ≡ u = cc in rw (p, q))

pub only_chunked : NineChunked
only_chunked = record { fetches = fetch-refused; carried = λ levels s vs f m a u. walk_refused levels s f vs m a u; walks = walk-among; sweeps = sweep-among }
