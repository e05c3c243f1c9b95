-- What is shown of the tree besides each function's contract. proofs/Promises proves each, as `height-least`, `shape`, `held_reads`,
-- `different-few`, `access-opens`, `stored-levels`, `listing-finds`, `chosen-stored`, `stored-chosen`, `decoded-chosen`,
-- `zero-marks`, `outcome-laws`, `sweep-rises` and `nine-chunked`.
use Rattle.std.specs.Prelude.{◌≡◌, ◌≢◌, ◌↔◌, Bool, true, false, cond, List, ◌++◌, map, ℕ, suc, ◌-◌, ◌*◌, ◌+◌, ◌^◌, ◌≤◌, ◌<◌, min, T, length, get_or, replicate}
use Rattle.codes.specs.Bits.{sum}
use Rattle.codes.specs.Codes.{part, Within}
use Rattle.codes.specs.Choice.{chosen}
use Rattle.codes.specs.Fetch.{outside}
use Rattle.codes.specs.Decode.{all}
use Rattle.codes.specs.Marks.{none}
use Rattle.tree.specs.declared.nodes.Levels.{Levels}
use Rattle.tree.specs.Shape.{height, side_of, stretch, rank}
use Rattle.tree.specs.Lists.{ordered, smaller}
use Rattle.tree.specs.Stored.{time_of, stored_values}
use Rattle.tree.specs.Levels.{count_of, level_of, code_of, part_of, fetched_at, Fits, OnChunked, level_values, Stores}
use Rattle.tree.specs.LevelMarks.{LevelMarks}
use Rattle.tree.specs.declared.walking.Found.{Found}
use Rattle.tree.specs.Outcomes.{Outcome, gives, refuses, after, verdict}
use Rattle.tree.specs.Times.{times_in}
use Rattle.tree.specs.Listing.{accesses, times_from, stop_from, times_all, stop_all}
use Rattle.tree.specs.DecodedLevels.{decoded_levels, Decodes}
use Rattle.tree.specs.Chosen.{all_chosen}
use Rattle.tree.specs.Walks.{walk, Among, met, found, toward, access_answer, search_nodes, search_answer, path, from_root}
use Rattle.tree.specs.Sweeps.{sweep_nodes, sweep_answer, sweep_positions, occurrences, on_path, over_different, different}

-- The height is the least number with 2 ^ h - 1 ≥ n.
pub record HeightLeast : Type 0 where
  pub enough : (n : ℕ) → n ≤ 2 ^ height n - 1
  pub least : (n h : ℕ) → n ≤ 2 ^ h - 1 → height n ≤ h

-- 1. The shape of the tree of n pins.
pub record Shape (n : ℕ) : Type 0 where
  -- node v is among 1 to n exactly when its stretch is not empty
  pub nodes : (v : ℕ) → 1 ≤ v → (v ≤ n) ↔ ((stretch n v).pins ≢ 0)
  -- under node 1 stands the whole list; the children of v are 2v and 2v + 1, with what precedes and what follows its root
  pub root : stretch n 1 ≡ record { start = 0; pins = n }
  pub left : (v : ℕ) → 1 ≤ v → stretch n (2 * v) ≡ side_of false (stretch n v)
  pub right : (v : ℕ) → 1 ≤ v → stretch n (2 * v + 1) ≡ side_of true (stretch n v)
  -- the ranks of 1 to n are 0 to n - 1, each once
  pub ranks : (v : ℕ) → 1 ≤ v → v ≤ n → rank n v < n
  pub each : (i : ℕ) → i < n → (v : ℕ) × (1 ≤ v) × (v ≤ n) × (rank n v ≡ i)
  pub once : (u v : ℕ) → 1 ≤ u → u ≤ n → 1 ≤ v → v ≤ n → rank n u ≡ rank n v → u ≡ v
  -- a node's level is the number of nodes above it on the way from the root; the level below d others, 01's level d + 1, holds nodes
  -- 2 ^ d to min(n, 2 ^ (d + 1) - 1)
  pub level : (v : ℕ) → 1 ≤ v → suc (level_of v) ≡ length (from_root v)
  pub levels : (v d : ℕ) → 1 ≤ v → v ≤ n → (level_of v ≡ d) ↔ ((2 ^ d ≤ v) × (v ≤ min n (2 ^ suc d - 1)))
  -- no walk down, whatever its tests, has more nodes than the height
  pub paths : (stop past : ℕ → Bool) (v : ℕ) → 1 ≤ v → length (walk n stop past v) ≤ height n

-- An ordered list of 32-bit times, and the levels of a strip that hold what its tree stores, each in any code that can hold it.
pub record Held (levels : Levels) (s xs : List ℕ) : Type 0 where
  pub in_order : T (ordered xs)
  pub times : Within 32 xs
  pub stores : Stores levels s xs

-- 2. What is read where levels hold a list, of n pins with these times at the nodes. Nothing is refused.
pub record Contents (n : ℕ) (time : ℕ → Outcome ℕ) (xs : List ℕ) : Type 0 where
  -- going down, each node has the list's time at its rank
  pub node : (v : ℕ) → 1 ≤ v → v ≤ length xs → time v ≡ gives (time_of xs v)
  -- access at i gives time i, and so all positions are listed
  pub access : (i : ℕ) → i < length xs → access_answer n time i ≡ gives (found (get_or xs i 0) (length (toward (length xs) i)))
  pub times : times_from (access_answer n time) n 0 ≡ xs
  pub stop : stop_from (access_answer n time) n 0 ≡ gives tt
  -- a search opens the nodes of its path, which goes on after an equal time, and counts them; it gives the number of times smaller than its
  -- target, so the first pin of a chord
  pub path_nodes : (t : ℕ) → search_nodes n time t 1 ≡ path xs t
  pub search : (t : ℕ) → search_answer n time t ≡ gives (found (smaller t xs) (length (path xs t)))
  -- a sweep of targets in order gives each the same number, and counts the different nodes on their paths
  pub positions : (ts : List ℕ) → T (ordered ts) → sweep_positions n time ts ≡ map (λ t. smaller t xs) ts
  pub sweep : (ts : List ℕ) → T (ordered ts) → sweep_answer n time ts ≡ gives (different xs ts)
  -- each node stands among those that it opens once where it is on the path of a target, and else not at all; so the sum over them of any
  -- number that belongs to a node is that over the different nodes
  pub once : (ts : List ℕ) → T (ordered ts) → (v : ℕ) → occurrences v (sweep_nodes n time ts) ≡ cond (on_path xs ts v) 1 0
  pub sums : (ts : List ℕ) → T (ordered ts) → (f : ℕ → ℕ) → sum (map f (sweep_nodes n time ts)) ≡ over_different xs ts f

abbrev pub HeldReads : Type 0
HeldReads = (levels : Levels) (s xs : List ℕ) → Held levels s xs → Contents levels.pins (times_in levels s) xs

-- 3. The different nodes on the paths of targets are at most all pins, and at most the height for each target.
pub record DifferentFew : Type 0 where
  pub pins : (xs ts : List ℕ) → different xs ts ≤ length xs
  pub heights : (xs ts : List ℕ) → different xs ts ≤ length ts * height (length xs)

-- 4. An access at i opens the nodes from the root to the one of rank i, one or more and at most the height, and counts them. What it gives
-- is a time of 32 bits.
pub record AccessOpens : Type 0 where
  pub nodes : (n v : ℕ) → 1 ≤ v → v ≤ n → toward n (rank n v) ≡ from_root v
  pub some : (n i : ℕ) → 1 ≤ n → 1 ≤ length (toward n i)
  pub few : (n i : ℕ) → length (toward n i) ≤ height n
  pub count : (n : ℕ) (time : ℕ → Outcome ℕ) (i : ℕ) (f : Found) → access_answer n time i ≡ gives f → f.nodes ≡ length (toward n i)
  pub small : (levels : Levels) (s : List ℕ) (i : ℕ) (f : Found) → accesses levels s i ≡ gives f → f.value < 2 ^ 32

-- 5. There are as many stored values as times, and none has more bits than the times. A level has one for each of its nodes, at most half of
-- them, rounded up; with the nodes above it, at most as many as there are nodes down to it.
pub record StoredLevels : Type 0 where
  pub count : (xs : List ℕ) → length (stored_values xs) ≡ length xs
  pub within : (w : ℕ) (xs : List ℕ) → Within w xs → Within w (stored_values xs)
  pub level_within : (w : ℕ) (values : List ℕ) (d : ℕ) → Within w values → Within w (level_values values d)
  pub level_count : (values : List ℕ) (d : ℕ) → length (level_values values d) ≡ count_of (length values) d
  pub half : (values : List ℕ) (d : ℕ) → 2 * length (level_values values d) ≤ length values + 1
  pub above : (values : List ℕ) (d : ℕ) → min (length values) (2 ^ d - 1) + length (level_values values d) ≤ min (length values) (2 ^ suc d - 1)

-- 6. Every time that is listed has 32 bits. Where nothing is refused every position has one.
pub record ListingFinds : Type 0 where
  pub within : (levels : Levels) (s : List ℕ) (k : ℕ) → Within 32 (times_from (accesses levels s) k 0)
  pub count : (answer : ℕ → Outcome Found) (k : ℕ) → stop_from answer k 0 ≡ gives tt → length (times_from answer k 0) ≡ k

-- 7. Where the levels are what pack writes for the values that they are decoded to, and every position has a time, these values are what
-- the tree of the listed times stores.
abbrev pub ChosenStored : Type 0
ChosenStored = (levels : Levels) (s : List ℕ) → all_chosen levels s ≡ true → stop_all levels s ≡ gives tt
    → (d : ℕ) → d < height levels.pins
    → let vs = level_values (stored_values (times_all levels s)) d in
    ((chosen vs).code ≡ code_of levels d) × (part (code_of levels d) vs ≡ part_of levels.ends s d)

-- 8. The other way round: levels that hold what a list's tree stores, each in the code that pack chooses, are what pack writes for the
-- values that they are decoded to.
abbrev pub StoredChosen : Type 0
StoredChosen = (levels : Levels) (s xs : List ℕ) → Stores levels s xs
    → ((d : ℕ) → d < height (length xs) → code_of levels d ≡ (chosen (level_values (stored_values xs) d)).code)
    → all_chosen levels s ≡ true

-- 9. Levels that are decoded have the values that stand in the buffer then; where one is not, they are not what pack writes.
pub record DecodedChosen : Type 0 where
  pub values : (levels : Levels) (s values : List ℕ) → Decodes levels s true values → decoded_levels levels s ≡ all values
  pub others : (levels : Levels) (s values : List ℕ) → Decodes levels s false values → all_chosen levels s ≡ false

-- 10. Marks of no bits are marks of any levels, however many they are.
abbrev pub ZeroMarks : Type 0
ZeroMarks = (ends s : List ℕ) (n : ℕ) → LevelMarks ends s (replicate n none)

-- 11. What is given is not refused, and is one thing. Of outcomes in order the first refusal decides, and what is given does not.
pub record OutcomeLaws : Type 1 where
  pub same : {A : Type 0} {a b : A} → gives a ≡ gives b → a ≡ b
  pub never : {A : Type 0} {a : A} {r c : ℕ} → gives a ≡ refuses r c → ⊥
  pub append : {A B C : Type 0} (os us : List (Outcome C)) (a : A) (b : B) → verdict (os ++ us) a ≡ after (verdict os b) (λ _. verdict us a)
  pub given : {A C : Type 0} (os : List (Outcome C)) (a x : A) → verdict os a ≡ gives x → a ≡ x

-- 12. A sweep of any targets on any strip opens the nodes of a level from left to right, so none twice.
abbrev pub SweepRises : Type 0
SweepRises = (n : ℕ) (time : ℕ → Outcome ℕ) (ts : List ℕ) (i j : ℕ) → let vs = sweep_nodes n time ts in
    i < j → j < length vs → level_of (get_or vs i 0) ≡ level_of (get_or vs j 0) → get_or vs i 0 < get_or vs j 0

-- 13. In levels that fit, no fetch for a node of 1 to n is refused but from a chunked level. So 9, whatever such nodes are opened in whatever
-- order, carries a node of a chunked level. Every walk down and every sweep opens such nodes.
pub record NineChunked : Type 1 where
  pub fetches : (levels : Levels) (s : List ℕ) → Fits levels s → (v : ℕ) → 1 ≤ v → v ≤ levels.pins → fetched_at levels s v ≡ outside → OnChunked levels v
  pub carried : {A : Type 0} (levels : Levels) (s vs : List ℕ) → Fits levels s → Among levels.pins vs → (a : A) (v : ℕ)
      → met (times_in levels s) vs a ≡ refuses 9 v → OnChunked levels v
  pub walks : (n : ℕ) (stop past : ℕ → Bool) (v : ℕ) → 1 ≤ v → Among n (walk n stop past v)
  pub sweeps : (n : ℕ) (time : ℕ → Outcome ℕ) (ts : List ℕ) → Among n (sweep_nodes n time ts)
