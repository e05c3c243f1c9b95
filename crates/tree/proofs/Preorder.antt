-- A sweep opens nodes in preorder, on any strip: a node comes before what lies under it, and what lies under its left child before its right
-- child. So each node is opened later than the one before it, and on one level the numbers rise.
use Rattle.std.proofs.Common.{◌≡◌, refl, sym, ap, Bool, true, false, cond, List, [], ◌∷◌, ◌++◌, inl, inr, ℕ, zero, suc, ◌+◌, ◌-◌, ◌*◌, ◌^◌, ◌≤◌, ◌<◌}
use Rattle.std.proofs.Common.{mul-le-mul_right, le_refl, arith, length, get_or, pow_pos, lt-ltb, le-ltb, ne_eqb}
use native.Mathlib.Nat.{pow-succ'}
use native.Mathlib.Decide.{dec_lt}
use Rattle.tree.specs.Shape.{height, child_of}
use Rattle.tree.specs.Levels.{level_of}
use Rattle.tree.specs.Outcomes.{Outcome}
use Rattle.tree.specs.Walks.{walk_in, walk, never, is_below, remember, last_of}
use Rattle.tree.specs.Sweeps.{dropped, legs_from, opened, sweep_nodes, occurrences}
use Rattle.tree.proofs.Heights.{height-mono, height-above}
use Rattle.tree.proofs.Walks.{child-bounds, height-child, walk-out}
use Rattle.tree.proofs.Counts.{equal-cases}

-- the places under node v on the level below the last, of a tree of n pins: so many, from `first` on
abbrev wide : ℕ → ℕ → ℕ
wide n v = 2 ^ (suc (height n) - height v)

first : ℕ → ℕ → ℕ
first n v = v * wide n v

-- preorder: node u comes before node v
data Before (n u v : ℕ) : Type 0 where
  sooner : first n u < first n v → Before n u v
  above : first n u ≡ first n v → height u < height v → Before n u v

before_on : {n u v w : ℕ} → Before n u v → Before n v w → Before n u w
before_on (sooner a) (sooner b) = sooner (omega arith)
before_on (sooner a) (above b c) = sooner (omega arith)
before_on (above a d) (sooner b) = sooner (omega arith)
before_on (above a d) (above b c) = above (omega arith) (omega arith)

some : (n v : ℕ) → 1 ≤ wide n v
some n v = pow_pos (suc (height n) - height v)

within : {n u v : ℕ} → Before n u v → first n u < first n v + wide n v
within {n} {u} {v} (sooner a) = omega (arith, some n v)
within {n} {u} {v} (above a b) = omega (arith, some n v)

-- on one level the numbers rise
level-rises : {n u v : ℕ} → Before n u v → height u ≡ height v → u < v
unfolding first
level-rises {n} {u} {v} (sooner a) e = elim (dec_lt u v) [
  | yes y ↦ y
  | no m ↦ let k : v ≤ u = omega arith in absurd (omega (arith, mul-le-mul_right (wide n v) k, rw e at a))
]
level-rises (above a b) e = absurd (omega arith)

-- what comes after 0 is on some level
some_level : {n : ℕ} (v : ℕ) → Before n 0 v → 1 ≤ height v
some_level zero (sooner a) = absurd (omega arith)
some_level (suc v) (sooner a) = height-above (suc v) 0 (omega arith)
some_level v (above a b) = omega arith

twice-left : (v w : ℕ) → child_of false v * w ≡ v * (2 * w)
unfolding child_of
twice-left v w = omega arith

twice-right : (v w : ℕ) → child_of true v * w ≡ v * (2 * w) + w
unfolding child_of
twice-right v w = omega arith

module _ (n v : ℕ) (one : 1 ≤ v) (among : v ≤ n) where
  halves : (right : Bool) → wide n v ≡ 2 * wide n (child_of right v)
  halves right =
      let e : suc (height n) - height v ≡ suc (height n - height v) = omega (arith, height-mono v n among) in
      let f : suc (height n) - suc (height v) ≡ height n - height v = omega arith in
      rw (height-child right v one, e, f, pow-succ' 2 (height n - height v))

  first-left : first n (child_of false v) ≡ first n v
  unfolding first
  first-left = rw (halves false) (twice-left v (wide n (child_of false v)))

  first-right : first n (child_of true v) ≡ first n v + wide n (child_of true v)
  unfolding first
  first-right = rw (halves true) (twice-right v (wide n (child_of true v)))

  child-after : (right : Bool) → Before n v (child_of right v)
  child-after true = sooner (omega (arith, first-right, some n (child_of true v)))
  child-after false = above (sym first-left) (omega (arith, height-child false v one))

-- ---- lists of nodes, each before the next

Rising : ℕ → ℕ → List ℕ → Type 0
Rising n u [] = Unit {0}
Rising n u (v ∷ vs) = Before n u v × Rising n v vs

rising-join : (n u : ℕ) (us vs : List ℕ) → Rising n u us → Rising n (last_of u us) vs → Rising n u (us ++ vs)
unfolding Rising last_of
rising-join n u [] vs a b = b
rising-join n u (x ∷ us) vs a b = (a.0, rising-join n x us vs a.1 b)

-- node u is before all of them
rising-all : (n u : ℕ) (vs : List ℕ) → Rising n u vs → (j : ℕ) → j < length vs → Before n u (get_or vs j 0)
unfolding Rising
rising-all n u [] r j h = absurd (omega arith)
rising-all n u (v ∷ vs) r zero h = r.0
rising-all n u (v ∷ vs) r (suc j) h = before_on r.0 (rising-all n v vs r.1 j (omega arith))

rising-pairs : (n u : ℕ) (vs : List ℕ) → Rising n u vs → (i j : ℕ) → i < j → j < length vs → Before n (get_or vs i 0) (get_or vs j 0)
unfolding Rising
rising-pairs n u [] r i j k h = absurd (omega arith)
rising-pairs n u (v ∷ vs) r i zero k h = absurd (omega arith)
rising-pairs n u (v ∷ vs) r zero (suc j) k h = rising-all n v vs r.1 j (omega arith)
rising-pairs n u (v ∷ vs) r (suc i) (suc j) k h = rising-pairs n v vs r.1 i j (omega arith) (omega arith)

-- so no number stands in such a list twice
none-later : (n u v : ℕ) (vs : List ℕ) → Rising n u vs → ((w : ℕ) → Before n u w → Before n v w) → occurrences v vs ≡ 0
unfolding Rising occurrences
none-later n u v [] r after = refl
none-later n u v (w ∷ vs) r after =
    let b = after w r.0 in
    rw (ne_eqb v w (λ e. omega (arith, level-rises b (ap height e), e)), none-later n w v vs r.1 (λ x c. before_on b c))

rising-once : (n u : ℕ) (vs : List ℕ) → Rising n u vs → (v : ℕ) → occurrences v vs ≤ 1
unfolding Rising occurrences
rising-once n u [] r v = omega arith
rising-once n u (w ∷ vs) r v = elim (equal-cases v w) [
  | inl e ↦ omega (arith, e.1, none-later n w v vs r.1 (λ x c. rw e.0 c))
  | inr e ↦ omega (arith, e.1, rising-once n w vs r.1 v)
]

-- ---- what a sweep remembers

-- What was opened lies before place `end`, and so before the right child of each remembered node, which itself lies under the left child of
-- the next.
Under : ℕ → ℕ → List ℕ → Type 0
Under n end [] = Unit {0}
Under n end (r ∷ rs) = (1 ≤ r) × (r ≤ n) × (end ≤ first n (child_of true r)) × Under n (first n r + wide n r) rs

-- node u was opened last
record Ends (n u : ℕ) (kept : List ℕ) : Type 0 where
  end : ℕ
  inside : first n u < end
  under : Under n end kept

-- after u nodes are opened each before the next, and what is then remembered lies after them
record Walked (n u : ℕ) (nodes kept : List ℕ) : Type 0 where
  rises : Rising n u nodes
  ends : Ends n (last_of u nodes) kept

-- one step down
under-child : (n v : ℕ) → 1 ≤ v → v ≤ n → (right : Bool) (kept : List ℕ) → Under n (first n v + wide n v) kept
    → Under n (first n (child_of right v) + wide n (child_of right v)) (cond right kept (v ∷ kept))
unfolding Under
under-child n v one among true kept k =
    let e : first n (child_of true v) + wide n (child_of true v) ≡ first n v + wide n v = omega (arith, first-right n v one among, halves n v one among true) in
    rw e k
under-child n v one among false kept k =
    (one, among, omega (arith, first-left n v one among, first-right n v one among, halves n v one among true, halves n v one among false), k)

-- where a target goes on: at no node, or after all that was opened
data Starts (n u from : ℕ) (kept : List ℕ) : Type 0 where
  nowhere : n < from → Starts n u from kept
  there : 1 ≤ from → Before n u from → Under n (first n from + wide n from) kept → Starts n u from kept

module _ (n : ℕ) (past : ℕ → Bool) where
  walks : (f u v : ℕ) (kept : List ℕ) → 1 ≤ v → Before n u v → Under n (first n v + wide n v) kept
      → Walked n u (walk_in f n never past v) (remember past (walk_in f n never past v) kept)
  unfolding walk_in remember last_of Rising
  walks zero u v kept one b k = record { rises = tt; ends = record { end = first n v + wide n v; inside = within b; under = k } }
  walks (suc f) u v kept one b k = elim (dec_lt n v) [
    | yes y ↦ rw (lt-ltb n v y) (record { rises = tt; ends = record { end = first n v + wide n v; inside = within b; under = k } })
    | no m ↦
        let among : v ≤ n = omega arith in
        let c = child_of (past v) v in
        let later = walks f v c (cond (past v) kept (v ∷ kept)) (omega (arith, child-bounds (past v) v)) (child-after n v one among (past v))
        (under-child n v one among (past v) kept k) in
        rw (le-ltb n v among) (record { rises = (b, later.rises); ends = later.ends })
  ]

  -- dropping remembered nodes
  drops : (u from end : ℕ) (kept : List ℕ) → first n u < end → Under n end kept → Starts n u from kept
      → let d = dropped past from kept in Ends n u d.kept × Starts n u d.from d.kept
  unfolding dropped Under
  drops u from end [] i k s = (record { end = end; inside = i; under = tt }, s)
  drops u from end (r ∷ rs) i k s =
      let c = child_of true r in
      let right = first-right n r k.0 k.1 in
      let half = halves n r k.0 k.1 true in
      let later = drops u c (first n r + wide n r) rs (omega arith) k.3
      (there (omega (arith, child-bounds true r)) (sooner (omega arith)) (under-child n r k.0 k.1 true rs k.3)) in
      go (past r) later
    where
      go : (b : Bool)
          → Ends n u (dropped past (child_of true r) rs).kept × Starts n u (dropped past (child_of true r) rs).from (dropped past (child_of true r) rs).kept
          → let d = cond b (dropped past (child_of true r) rs) (record { from = from; kept = r ∷ rs }) in Ends n u d.kept × Starts n u d.from d.kept
      go true later = later
      go false later = (record { end = end; inside = i; under = k }, s)

  -- one target, and those after it
  target-rises : (u from : ℕ) (kept : List ℕ) (later : List ℕ → List ℕ) → Ends n u kept → Starts n u from kept
      → ((w : ℕ) (ks : List ℕ) → Ends n w ks → Rising n w (later ks))
      → Rising n u (walk n never past from ++ later (remember past (walk n never past from) kept))
  unfolding walk remember
  target-rises u from kept later e (nowhere h) rest = rw (walk-out n never past from h) (rest u kept e)
  target-rises u from kept later e (there one b k) rest =
      let w = walks (suc (height n) - height from) u from kept one b k in
      rising-join n u (walk n never past from) (later (remember past (walk n never past from) kept)) w.rises (rest _ _ w.ends)

opens : (n : ℕ) (time : ℕ → Outcome ℕ) (u from : ℕ) (kept ts : List ℕ) → Ends n u kept → Starts n u from kept
    → Rising n u (opened (legs_from n time from kept ts))
unfolding legs_from opened Rising
opens n time u from kept [] e s = tt
opens n time u from kept (t ∷ ts) e s =
    let d = dropped (is_below time t) from kept in
    let p = drops n (is_below time t) u from e.end kept e.inside e.under s in
    target-rises n (is_below time t) u d.from d.kept (λ ks. opened (legs_from n time (suc n) ks ts)) p.0 p.1
    (λ w ks x. opens n time w (suc n) ks ts x (nowhere (omega arith)))

nodes-rising : (n : ℕ) (time : ℕ → Outcome ℕ) (ts : List ℕ) → Rising n 0 (sweep_nodes n time ts)
unfolding first Under
nodes-rising n time ts = opens n time 0 1 [] ts begin root
  where
    begin : Ends n 0 []
    begin = record { end = 1; inside = omega arith; under = tt }

    root : Starts n 0 1 []
    root = there (le_refl 1) (sooner (omega (arith, some n 1))) tt

pub nodes-once : (n : ℕ) (time : ℕ → Outcome ℕ) (ts : List ℕ) (v : ℕ) → occurrences v (sweep_nodes n time ts) ≤ 1
nodes-once n time ts = rising-once n 0 (sweep_nodes n time ts) (nodes-rising n time ts)

pub nodes-rise : (n : ℕ) (time : ℕ → Outcome ℕ) (ts : List ℕ) (i j : ℕ) → let vs = sweep_nodes n time ts in
    i < j → j < length vs → level_of (get_or vs i 0) ≡ level_of (get_or vs j 0) → get_or vs i 0 < get_or vs j 0
nodes-rise n time ts i j k h e =
    let vs = sweep_nodes n time ts in
    let r = nodes-rising n time ts in
    level-rises (rising-pairs n 0 vs r i j k h) (omega (arith, some_level _ (rising-all n 0 vs r i (omega arith)), some_level _ (rising-all n 0 vs r j h)))
