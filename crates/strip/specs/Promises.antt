-- What is shown of strips besides each call's contract and the demands. proofs/Promises proves each, as `room-enough`, `image-opens`,
-- `round_trip`, `repeat-later`, `time-opens` and `nine-chunked`.
use Rattle.std.specs.Prelude.{◌≡◌, cond, List, ℕ, suc, ◌+◌, ◌-◌, ◌*◌, ◌^◌, ◌≤◌, ◌<◌, eqb, leb, length, get_or, None, Some}
use Rattle.codes.specs.Codes.{Within}
use Rattle.tree.specs.declared.nodes.Levels.{Levels}
use Rattle.tree.specs.Lists.{smaller}
use Rattle.tree.specs.declared.walking.Found.{Found}
use Rattle.tree.specs.Levels.{OnChunked}
use Rattle.tree.specs.Outcomes.{Outcome, gives, refuses}
use Rattle.tree.specs.Times.{times_in}
use Rattle.tree.specs.Walks.{found, toward, search_nodes, path}
use Rattle.strip.specs.Lists.{up_to, first_gap}
use Rattle.strip.specs.Layout.{max_bytes, parts_start}
use Rattle.strip.specs.Image.{Packable, image}
use Rattle.strip.specs.Opening.{opening}
use Rattle.strip.specs.Calls.{access_of, search_of, up_to_of, sweep_of, check_of, unpack_of, repeat_of, step_of}
use Rattle.strip.specs.Demands.{FewestBits}

-- 1. Room for 4 bytes a pin after the level entries is always enough, so 262,227 bytes for any list.
abbrev pub RoomEnough : Type 0
RoomEnough = (xs : List ℕ) → Packable xs → (length (image xs) ≤ parts_start (length xs) + 4 * length xs) × (length (image xs) ≤ max_bytes)

-- 2. Opening the image succeeds, each of its levels is in the code with fewest bits, and the nodes that a search opens are those of its path.
pub record Opens (xs : List ℕ) (levels : Levels) : Type 0 where
  pub bits : FewestBits xs (image xs) levels
  pub nodes : (t : ℕ) → search_nodes levels.pins (times_in levels (image xs)) t 1 ≡ path xs t

abbrev pub ImageOpens : Type 0
ImageOpens = (xs : List ℕ) → Packable xs → (levels : Levels) × Opens xs levels

-- 3. On the image of a list, access at i gives time i, and counts the nodes from the root to rank i. A search gives the number of
-- strikes earlier than its target, and counts the nodes of its path. Up-to gives the number of strikes at or before its time, and
-- repeat the first position from 1 on whose gap is below r, or none. A step of a pin walker is the access below n, and end from n on.
pub record ReadsBack (xs : List ℕ) : Type 0 where
  pub access : (i : ℕ) → i < length xs → access_of (image xs) i ≡ gives (found (get_or xs i 0) (length (toward (length xs) i)))
  pub search : (t : ℕ) → search_of (image xs) t ≡ gives (found (smaller t xs) (length (path xs t)))
  pub repeat : (r : ℕ) → repeat_of (image xs) r ≡ gives (first_gap r xs)
  pub up_to : (t : ℕ) → t < 2 ^ 32 → up_to_of (image xs) t ≡ gives (found (up_to t xs) (cond (eqb t (2 ^ 32 - 1)) 0 (length (path xs (suc t)))))
  pub step : (i : ℕ) → step_of (image xs) i ≡ gives (cond (leb (length xs) i) None (Some (found (get_or xs i 0) (length (toward (length xs) i)))))

abbrev pub RoundTrip : Type 0
RoundTrip = (xs : List ℕ) → Packable xs → ReadsBack xs

-- 4. A position that repeat gives, on any strip, is 1 or more. So 0 can say none.
abbrev pub RepeatLater : Type 0
RepeatLater = (s : List ℕ) (r i : ℕ) → repeat_of s r ≡ gives (Some i) → 1 ≤ i

-- 5. An access or a step that gives a time, on any strip, gives one of 32 bits and has opened a node or more. So no nodes can say end.
pub record TimeOpens : Type 0 where
  pub access : (s : List ℕ) (i : ℕ) (f : Found) → access_of s i ≡ gives f → (f.value < 2 ^ 32) × (1 ≤ f.nodes)
  pub step : (s : List ℕ) (i : ℕ) (f : Found) → step_of s i ≡ gives (Some f) → (f.value < 2 ^ 32) × (1 ≤ f.nodes)

-- 6. 9 remains for chunked levels: in any call on any bytes it carries a node of 1 to n on one, of a strip that opens.
abbrev pub CarriesChunked : {A : Type 0} → List ℕ → Outcome A → Type 0
CarriesChunked s o = (v : ℕ) → o ≡ refuses 9 v → (levels : Levels) × (opening s ≡ gives levels) × OnChunked levels v

pub record EveryNine (s : List ℕ) : Type 0 where
  pub access : (i : ℕ) → CarriesChunked s (access_of s i)
  pub search : (t : ℕ) → CarriesChunked s (search_of s t)
  pub up_to : (t : ℕ) → CarriesChunked s (up_to_of s t)
  pub sweep : (ts : List ℕ) (room : ℕ) → CarriesChunked s (sweep_of s ts room)
  pub check : CarriesChunked s (check_of s)
  pub unpack : (room : ℕ) → CarriesChunked s (unpack_of s room)
  pub repeat : (r : ℕ) → CarriesChunked s (repeat_of s r)
  pub step : (i : ℕ) → CarriesChunked s (step_of s i)

abbrev pub NineChunked : Type 0
NineChunked = (s : List ℕ) → Within 8 s → EveryNine s
