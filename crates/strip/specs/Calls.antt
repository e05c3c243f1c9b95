-- What the calls answer, and what they leave in the memory that they are lent.
use Rattle.std.specs.Prelude.{Bool, false, not, cond, List, [], ◌∷◌, ◌++◌, ℕ, zero, suc, ◌-◌, ◌^◌, eqb, ltb, leb, length, Option, Some, None}
use Rattle.codes.specs.Lists.{same, at_front}
use Rattle.tree.specs.declared.nodes.Levels.{Levels}
use Rattle.tree.specs.Lists.{ordered}
use Rattle.tree.specs.declared.walking.Found.{Found}
use Rattle.tree.specs.Outcomes.{Outcome, gives, refuses, follow, after, Test, test, verdict}
use Rattle.tree.specs.Times.{times_in}
use Rattle.tree.specs.Walks.{found, search_answer}
use Rattle.tree.specs.Sweeps.{sweep_answer, sweep_positions}
use Rattle.tree.specs.Listing.{accesses, times_all}
use Rattle.strip.specs.declared.walker.Walker.{Walker}
use Rattle.strip.specs.Lists.{first_lower}
use Rattle.strip.specs.Layout.{max_pins}
use Rattle.strip.specs.Image.{image}
use Rattle.strip.specs.Opening.{opening}

-- ---- pack

-- 4, of pack with the bytes needed, of unpack with the entries
abbrev pub room_test : ℕ → ℕ → Test
room_test room needed = test (ltb room needed) 4 needed

-- what is needed, where there is room for it
abbrev pub room_for : ℕ → ℕ → Outcome ℕ
room_for room needed = verdict (room_test room needed ∷ []) needed

-- order 1, 2, 3, 4
abbrev pub pack_tests : List ℕ → ℕ → List Test
pack_tests xs room =
    test (eqb (length xs) 0) 1 0
    ∷ test (ltb max_pins (length xs)) 2 0
    ∷ test (not (ordered xs)) 3 (first_lower xs)
    ∷ room_test room (length (image xs))
    ∷ []

-- gives the image's length in bytes
unfoldable pub pack_of : List ℕ → ℕ → Outcome ℕ
pack_of xs room = verdict (pack_tests xs room) (length (image xs))

-- the output with these entries at the front; a refusal writes nothing
abbrev pub written : Outcome ℕ → List ℕ → List ℕ → List ℕ
written o entries out = follow (λ r c. out) o (λ n. at_front entries out)

-- the output after pack: the image at the front, later bytes as they were
unfoldable pub pack_output : List ℕ → List ℕ → List ℕ
pack_output xs out = written (pack_of xs (length out)) (image xs) out

-- ---- access, search, up-to

-- 14, then fetches from the root to rank i
abbrev pub access_in : List ℕ → ℕ → Levels → Outcome Found
access_in s i levels = after (test (leb levels.pins i) 14 0) (λ _. accesses levels s i)

-- access i, which opens first
unfoldable pub access_of : List ℕ → ℕ → Outcome Found
access_of s i = after (opening s) (access_in s i)

-- from the root, left where the node's time is at or above t, else right, until no child
abbrev pub search_in : List ℕ → ℕ → Levels → Outcome Found
search_in s t levels = search_answer levels.pins (times_in levels s) t

-- search t, which opens first
unfoldable pub search_of : List ℕ → ℕ → Outcome Found
search_of s t = after (opening s) (search_in s t)

-- n and 0 nodes for t = 4,294,967,295, otherwise search at t + 1 with its count
abbrev pub up_to_in : List ℕ → ℕ → Levels → Outcome Found
up_to_in s t levels = cond (eqb t (2 ^ 32 - 1)) (gives (found levels.pins 0)) (search_in s (suc t) levels)

-- up-to t, which opens first
unfoldable pub up_to_of : List ℕ → ℕ → Outcome Found
up_to_of s t = after (opening s) (up_to_in s t)

-- ---- sweep

-- 15, 16
abbrev pub sweep_tests : List ℕ → ℕ → List Test
sweep_tests ts room = test (not (eqb room (length ts))) 15 0 ∷ test (not (ordered ts)) 16 (first_lower ts) ∷ []

-- 15, 16, then one target after the other, with so many answers lent
abbrev pub sweep_in : List ℕ → List ℕ → ℕ → Levels → Outcome ℕ
sweep_in s ts room levels = after (verdict (sweep_tests ts room) levels) (λ l. sweep_answer l.pins (times_in l s) ts)

-- the sweep, which opens first
unfoldable pub sweep_of : List ℕ → List ℕ → ℕ → Outcome ℕ
sweep_of s ts room = after (opening s) (sweep_in s ts room)

-- The answers after it: the positions of the targets before the one that is refused, or of all; later ones as they were. A refusal before
-- the first target writes nothing.
abbrev pub sweep_over : List ℕ → List ℕ → List ℕ → Levels → List ℕ
sweep_over s ts answers levels =
    follow (λ r c. answers) (verdict (sweep_tests ts (length answers)) levels) (λ l. at_front (sweep_positions l.pins (times_in l s) ts) answers)

unfoldable pub sweep_output : List ℕ → List ℕ → List ℕ → List ℕ
sweep_output s ts answers = follow (λ r c. answers) (opening s) (sweep_over s ts answers)

-- ---- check and unpack

-- the time at position i; where access is refused the call ends, and nothing is asked of it
abbrev pub time_at : (ℕ → Outcome Found) → ℕ → ℕ
time_at answer i = follow (λ r c. 0) (answer i) (λ f. f.value)

-- the times fall at a position
abbrev pub falls_at : (ℕ → ℕ) → ℕ → Bool
falls_at time zero = false
falls_at time (suc i) = ltb (time (suc i)) (time i)

-- at position i access's refusal, then 11
abbrev pub position_test : (ℕ → Outcome Found) → ℕ → Test
position_test answer i = after (answer i) (λ f. test (falls_at (time_at answer) i) 11 i)

-- at each of k positions from i on
unfoldable pub positions_tests : (ℕ → Outcome Found) → ℕ → ℕ → List Test
positions_tests answer zero i = []
positions_tests answer (suc k) i = position_test answer i ∷ positions_tests answer k (suc i)

-- the list so read
unfoldable pub list_in : List ℕ → Levels → List ℕ
list_in s levels = times_all levels s

-- bytes other than the list's image
abbrev pub image_test : List ℕ → Levels → Test
image_test s levels = test (not (same (image (list_in s levels)) s)) 12 0

-- for i from 0, access's refusal, then 11; after all, 12
abbrev pub check_tests : List ℕ → Levels → List Test
check_tests s levels = positions_tests (accesses levels s) levels.pins 0 ++ (image_test s levels ∷ [])

-- gives n
abbrev pub check_in : List ℕ → Levels → Outcome ℕ
check_in s levels = verdict (check_tests s levels) levels.pins

-- check, which opens first
unfoldable pub check_of : List ℕ → Outcome ℕ
check_of s = after (opening s) (check_in s)

-- the plain list of an accepted strip; of one that does not open nothing is read
unfoldable pub plain_list : List ℕ → List ℕ
plain_list s = follow (λ r c. []) (opening s) (list_in s)

-- check, then 4; gives n
unfoldable pub unpack_of : List ℕ → ℕ → Outcome ℕ
unpack_of s room = after (check_of s) (room_for room)

-- the output after unpack: the first n entries are the list, later ones as they were
unfoldable pub unpack_output : List ℕ → List ℕ → List ℕ
unpack_output s out = written (unpack_of s (length out)) (plain_list s) out

-- ---- repeat

-- the time at a position, less the one before, is below r
abbrev pub near_at : (ℕ → ℕ) → ℕ → ℕ → Bool
near_at time r zero = false
near_at time r (suc i) = ltb (time (suc i) - time i) r

-- at each of k positions from i on: access's refusal, then 11, then the test of r, whose first position is given; or none
unfoldable pub repeat_from : (ℕ → Outcome Found) → ℕ → ℕ → ℕ → Outcome (Option ℕ)
repeat_from answer r zero i = gives None
repeat_from answer r (suc k) i = after (position_test answer i) (λ _. cond (near_at (time_at answer) r i) (gives (Some i)) (repeat_from answer r k (suc i)))

-- repeat r, which opens first
unfoldable pub repeat_of : List ℕ → ℕ → Outcome (Option ℕ)
repeat_of s r = after (opening s) (λ levels. repeat_from (accesses levels s) r levels.pins 0)

-- ---- pin walker

-- end, which is `None`, at n or beyond, otherwise access there
abbrev pub step_in : List ℕ → ℕ → Levels → Outcome (Option Found)
step_in s i levels = cond (leb levels.pins i) (gives None) (after (access_in s i levels) (λ f. gives (Some f)))

-- a step at next position i, which opens first
unfoldable pub step_of : List ℕ → ℕ → Outcome (Option Found)
step_of s i = after (opening s) (step_in s i)

-- moves on by one; end and refusals do not move it
abbrev pub moved_by : Outcome (Option Found) → ℕ → ℕ
moved_by (gives (Some f)) i = suc i
moved_by (gives None) i = i
moved_by (refuses r c) i = i

-- the next position after that step
unfoldable pub next_of : List ℕ → ℕ → ℕ
next_of s i = moved_by (step_of s i) i

-- what a step of a walker says
abbrev pub walker_step : Walker → Outcome (Option Found)
walker_step w = step_of w.strip.now w.next

-- the walker after it: the same strip, and the next position
abbrev pub walker_after : Walker → Walker
walker_after w = record { strip = w.strip; next = next_of w.strip.now w.next }

-- after k steps
unfoldable pub walker_after_steps : ℕ → Walker → Walker
walker_after_steps zero w = w
walker_after_steps (suc k) w = walker_after (walker_after_steps k w)
