-- What the project demands of the calls together, each demand one statement, and what a pin walker says of an accepted strip. Demand 1 is
-- the contracts of the calls themselves. proofs/Demands proves demand 2 as `demand-2`, demand 3 as `demand-3` and the last as `walker-lists`.
use Rattle.std.specs.Prelude.{◌≡◌, ◌↔◌, List, ℕ, ◌*◌, ◌≤◌, ◌<◌, T, length, get_or, Result, Ok, None, Some}
use Rattle.codes.specs.Lists.{at_front}
use Rattle.codes.specs.Codes.{kind_of, Within, Holds}
use Rattle.codes.specs.Choice.{size}
use Rattle.tree.specs.declared.nodes.Levels.{Levels}
use Rattle.tree.specs.Shape.{height}
use Rattle.tree.specs.Lists.{ordered, smaller}
use Rattle.tree.specs.Stored.{time_of, stored_values}
use Rattle.tree.specs.Levels.{code_of, level_values, Stores}
use Rattle.tree.specs.Outcomes.{gives}
use Rattle.tree.specs.Times.{times_in}
use Rattle.tree.specs.Walks.{found, toward, path}
use Rattle.tree.specs.Sweeps.{different}
use Rattle.tree.specs.Promises.{Shape}
use Rattle.tree.specs.declared.walking.Found.{Found}
use Rattle.strip.specs.declared.refusals.Refusal.{Refusal}
use Rattle.strip.specs.declared.walker.Walker.{Walker}
use Rattle.strip.specs.Refusals.{outcome}
use Rattle.strip.specs.Image.{Packable, image}
use Rattle.strip.specs.Opening.{opening}
use Rattle.strip.specs.Calls.{pack_of, pack_output, search_of, sweep_of, sweep_output, check_of, plain_list, unpack_of, unpack_output, walker_step, walker_after_steps}

-- A list packs to a strip in an output: pack gives the strip's length and leaves the strip at the front, with the later bytes as they were.
abbrev pub PacksTo : List ℕ → List ℕ → List ℕ → Type 0
PacksTo xs s out = (pack_of xs (length out) ≡ gives (length s)) × (pack_output xs out ≡ at_front s out)

-- a strip unpacks to a list, in the same way
abbrev pub UnpacksTo : List ℕ → List ℕ → List ℕ → Type 0
UnpacksTo s xs out = (unpack_of s (length out) ≡ gives (length xs)) × (unpack_output s out ≡ at_front xs out)

-- A strip is the tree of a list in the code with fewest bits. It opens, and the tree is 01's: the shape of its nodes, each node with the list's
-- time at its rank. Each level holds what the tree stores on it, in the code with fewest bits among all that can hold it. Among codes with as
-- many bits it has the least number: a fixed code goes first, then the smaller b.
pub record FewestBits (xs s : List ℕ) (levels : Levels) : Type 0 where
  pub opened : opening s ≡ gives levels
  pub shape : Shape (length xs)
  pub node_times : (v : ℕ) → 1 ≤ v → v ≤ length xs → times_in levels s v ≡ gives (time_of xs v)
  pub stores : Stores levels s xs
  pub fewest : (d code : ℕ) → d < height (length xs) → Holds (kind_of code) (level_values (stored_values xs) d)
      → size (code_of levels d) (level_values (stored_values xs) d) ≤ size code (level_values (stored_values xs) d)
  pub on_tie : (d code : ℕ) → d < height (length xs) → Holds (kind_of code) (level_values (stored_values xs) d)
      → size code (level_values (stored_values xs) d) ≡ size (code_of levels d) (level_values (stored_values xs) d) → code_of levels d ≤ code

-- a strip is accepted when some list of 32-bit times packs to it, in some output
abbrev pub Accepted : List ℕ → Type 0
Accepted s = (xs : List ℕ) × Within 32 xs × ((out : List ℕ) × PacksTo xs s out)

-- check accepts a strip
abbrev pub CheckAccepts : List ℕ → Type 0
CheckAccepts s = (n : ℕ) × (check_of s ≡ gives n)

-- Beside what the calls are defined to answer stands what the code answers: anything that meets a call's contract.
pub record Demand2 : Type 0 where
  -- every ordered list of 1 to 65,535 times packs, given an output long enough, and whatever that holds
  pub packs : (xs : List ℕ) → Packable xs → (out : List ℕ) → length (image xs) ≤ length out → PacksTo xs (image xs) out
  pub code_packs : (xs : List ℕ) → Packable xs → (out : List ℕ) → length (image xs) ≤ length out → (r : Result ℕ Refusal) (after : List ℕ) → outcome r ≡ pack_of xs (length out)
      → after ≡ pack_output xs out → (r ≡ Ok (length (image xs))) × (after ≡ at_front (image xs) out)
  -- to one strip, which does not depend on the output
  pub one_strip : (xs s out : List ℕ) → PacksTo xs s out → s ≡ image xs
  -- with every level in the code with fewest bits
  pub fewest_bits : (xs : List ℕ) → Packable xs → (levels : Levels) × FewestBits xs (image xs) levels
  -- and that strip unpacks to the list
  pub unpacks : (xs : List ℕ) → Packable xs → (out : List ℕ) → length xs ≤ length out → UnpacksTo (image xs) xs out
  pub code_unpacks : (xs : List ℕ) → Packable xs → (out : List ℕ) → length xs ≤ length out → (r : Result ℕ Refusal) (after : List ℕ) → outcome r ≡ unpack_of (image xs) (length out)
      → after ≡ unpack_output (image xs) out → (r ≡ Ok (length xs)) × (after ≡ at_front xs out)
  -- check accepts a strip exactly when some list packs to it, and gives its pin count
  pub accepts : (s : List ℕ) → CheckAccepts s ↔ Accepted s
  pub code_accepts : (s : List ℕ) (r : Result ℕ Refusal) → outcome r ≡ check_of s → ((n : ℕ) × (r ≡ Ok n)) ↔ Accepted s
  pub pin_count : (s : List ℕ) → Accepted s → check_of s ≡ gives (length (plain_list s))
  -- that list is an ordered one of 1 to 65,535 times, and the only one: the strip's plain list
  pub one_list : (s xs out : List ℕ) → Within 32 xs → PacksTo xs s out → Packable xs × (xs ≡ plain_list s)
  -- on an accepted strip no search is refused, and search gives the number of strikes earlier than its target
  pub searches : (s : List ℕ) → Accepted s → (t : ℕ) → search_of s t ≡ gives (found (smaller t (plain_list s)) (length (path (plain_list s) t)))
  pub code_searches : (s : List ℕ) → Accepted s → (t : ℕ) (r : Result Found Refusal) → outcome r ≡ search_of s t
      → r ≡ Ok (found (smaller t (plain_list s)) (length (path (plain_list s) t)))

-- ---- demand 3

-- A sweep of a strip by these targets that is not refused, carries `nodes` and leaves the answers `after`.
pub record SweepsAs (s ts : List ℕ) (nodes : ℕ) (after : List ℕ) : Type 0 where
  -- at every index a search of the target is not refused either, and gives the sweep's position
  pub searches : (i : ℕ) → i < length ts → search_of s (get_or ts i 0) ≡ gives (found (get_or after i 0) (length (path (plain_list s) (get_or ts i 0))))
  -- which is the number of smaller times
  pub positions : (i : ℕ) → i < length ts → get_or after i 0 ≡ smaller (get_or ts i 0) (plain_list s)
  -- there is nothing else in the answers
  pub count : length after ≡ length ts
  -- the nodes are the different ones on the paths of those searches
  pub different_nodes : nodes ≡ different (plain_list s) ts
  pub at_most_pins : nodes ≤ length (plain_list s)
  pub at_most_heights : nodes ≤ length ts * height (length (plain_list s))

-- an accepted strip, targets none of which is less than the one before, and as many answers
pub record Demand3 : Type 0 where
  pub sweeps : (s ts answers : List ℕ) → Accepted s → T (ordered ts) → length answers ≡ length ts
      → (nodes : ℕ) × (sweep_of s ts (length answers) ≡ gives nodes) × SweepsAs s ts nodes (sweep_output s ts answers)
  -- and so does the code: any answer, with the answers left, that meets the contract of `Strip::sweep`
  pub code_sweeps : (s ts answers : List ℕ) → Accepted s → T (ordered ts) → length answers ≡ length ts
      → (r : Result ℕ Refusal) (after : List ℕ) → outcome r ≡ sweep_of s ts (length answers) → after ≡ sweep_output s ts answers
      → (nodes : ℕ) × (r ≡ Ok nodes) × SweepsAs s ts nodes after

-- ---- the pin walker

-- From the start of an accepted strip, as many steps as there are pins say the plain list's times in order, each with the nodes that access
-- opens. Every step after them says end.
pub record WalkerLists : Type 0 where
  pub times : (w : Walker) → w.next ≡ 0 → Accepted w.strip.now → (k : ℕ) → k < length (plain_list w.strip.now)
      → walker_step (walker_after_steps k w) ≡ gives (Some (found (get_or (plain_list w.strip.now) k 0) (length (toward (length (plain_list w.strip.now)) k))))
  pub ends : (w : Walker) → w.next ≡ 0 → Accepted w.strip.now → (k : ℕ) → length (plain_list w.strip.now) ≤ k → walker_step (walker_after_steps k w) ≡ gives None
