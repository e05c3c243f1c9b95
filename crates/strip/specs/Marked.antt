-- 01's marked cases, the examples of its table of refusals, and those of 23 (02), computed. The example of 2, a list of 65,536, is too long for it and
-- stands beside `marked-says`.
use Rattle.std.specs.Prelude.{Bool, true, false, ◌&&◌, ◌≡◌, refl, List, [], ◌∷◌, ◌++◌, ℕ, ◌+◌, eqb, length, take, set, replicate, Option, None, Some}
use Rattle.codes.specs.Lists.{same}
use Rattle.codes.specs.Bits.{bits, number, sum, fixed, numbers, padded}
use Rattle.codes.specs.Codes.{kind_of, rest, layers, kind_bits}
use Rattle.codes.specs.Choice.{width_in, widest, best_chunked, chosen}
use Rattle.codes.specs.Fetch.{fixed_at, fetch_layers, chunked_at, fetched}
use Rattle.tree.specs.Shape.{height, root_place, child_of, stretch_in, stretch, rank}
use Rattle.tree.specs.Lists.{ordered}
use Rattle.tree.specs.Stored.{time_of, time_above, stored, stored_from}
use Rattle.tree.specs.Levels.{fetched_at}
use Rattle.tree.specs.Times.{node_time_in, node_time}
use Rattle.tree.specs.declared.walking.Found.{Found}
use Rattle.tree.specs.Outcomes.{Outcome, gives, refuses, test, verdict}
use Rattle.tree.specs.Walks.{walk_in, walk, found, met, toward, last_of, access_answer, remember, target_from}
use Rattle.tree.specs.Sweeps.{dropped, legs_from, opened, positions}
use Rattle.tree.specs.Listing.{times_from}
use Rattle.strip.specs.Lists.{first_lower}
use Rattle.strip.specs.Layout.{max_pins, max_height, header, entry, end_after, filled, laid_out}
use Rattle.strip.specs.Image.{code_for, part_for, joined, strip_of, image}
use Rattle.strip.specs.Opening.{entries_tests, opening}
use Rattle.strip.specs.Calls.{pack_of, pack_output, access_of, search_of, up_to_of, sweep_of, sweep_output, positions_tests, list_in, check_of, plain_list, unpack_of, unpack_output, repeat_from, repeat_of, step_of, next_of}

-- list A with its strip, and strip B, that of the list 0
abbrev pub list_a : List ℕ
list_a = 100 ∷ 250 ∷ 250 ∷ 400 ∷ 1000 ∷ []

abbrev pub a : List ℕ
a =
    0x50 ∷ 0x49 ∷ 0x4e ∷ 0x00 ∷ 0x01 ∷ 0x00 ∷ 0x05 ∷ 0x09 ∷ 0x00 ∷ 0x00 ∷ 0x00 ∷ 0x02 ∷ 0x0a ∷ 0x00 ∷ 0x00 ∷ 0x00 ∷ 0x03
    ∷ 0x42 ∷ 0x00 ∷ 0x00 ∷ 0x00 ∷ 0x02 ∷ 0xc8 ∷ 0x00 ∷ 0x25 ∷ 0xa5 ∷ 0x80 ∷ 0xa2 ∷ 0xd4 ∷ []

abbrev pub b : List ℕ
b = 0x50 ∷ 0x49 ∷ 0x4e ∷ 0x00 ∷ 0x01 ∷ 0x00 ∷ 0x01 ∷ 0x00 ∷ 0x00 ∷ 0x00 ∷ 0x00 ∷ 0x00 ∷ []

-- n = 2: the root 0, node 2 storing 1
abbrev low : List ℕ
low = header 2 ++ entry 0 0 ++ entry 1 1 ++ (0x80 ∷ [])

-- A with node 5 storing 151: the times are 100, 250, 401, 400 and 1000
abbrev fallen : List ℕ
fallen = header 5 ++ entry 9 2 ++ entry 10 3 ++ entry 8 2 ++ (0xc8 ∷ 0x00 ∷ 0x25 ∷ 0xa5 ∷ 0x80 ∷ 150 ∷ 151 ∷ [])

-- n = 1: the list 0 in code 65, which takes two bits where none is needed
abbrev wasteful : List ℕ
wasteful = header 1 ++ entry 65 1 ++ (0x00 ∷ [])

-- n = 3: the root 5, node 2 storing 0, node 3 storing 2 ^ 32 - 1
abbrev high : List ℕ
high = header 3 ++ entry 3 1 ++ entry 32 8 ++ (0xa0 ∷ 0 ∷ 0 ∷ 0 ∷ 0 ∷ 255 ∷ 255 ∷ 255 ∷ 255 ∷ [])

-- n = 1: code 65 with no bytes
abbrev bare : List ℕ
bare = header 1 ++ entry 65 0

-- n = 3: the root 5, node 2 storing 0, and in chunks of 8 bits no room for the second one of node 3
abbrev chunkless : List ℕ
chunkless = header 3 ++ entry 3 1 ++ entry 72 3 ++ (0xa0 ∷ 0x40 ∷ 0 ∷ 0 ∷ [])

-- n = 3: level 2 of width 32 has one value's bytes, and three values'
abbrev cut : List ℕ
cut = header 3 ++ entry 3 1 ++ entry 32 4 ++ (0xa0 ∷ 0 ∷ 0 ∷ 0 ∷ 0 ∷ [])

abbrev long : List ℕ
long = header 3 ++ entry 3 1 ++ entry 32 12 ++ (0xa0 ∷ replicate 12 0)

pub data Case : Type 0 where
  -- the list, the output lent, the answer, and the output after it
  packs : List ℕ → List ℕ → Outcome ℕ → List ℕ → Case
  accesses : List ℕ → ℕ → Outcome Found → Case
  searches : List ℕ → ℕ → Outcome Found → Case
  up_tos : List ℕ → ℕ → Outcome Found → Case
  -- the strip, the targets, the answers lent, the answer, and the answers after it
  sweeps : List ℕ → List ℕ → List ℕ → Outcome ℕ → List ℕ → Case
  checks : List ℕ → Outcome ℕ → Case
  -- the strip, the output lent, the answer, and the output after it
  unpacks : List ℕ → List ℕ → Outcome ℕ → List ℕ → Case
  repeats : List ℕ → ℕ → Outcome (Option ℕ) → Case
  -- the strip, a pin walker's next position, what its step says, and the next position after it
  steps : List ℕ → ℕ → Outcome (Option Found) → ℕ → Case
  root : ℕ → ℕ → Case
  tall : ℕ → ℕ → Case

abbrev pub marked : List Case
marked =
    -- 1 and 2, with a byte more than is needed
    packs list_a (replicate 30 7) (gives 29) (a ++ (7 ∷ [])) ∷ packs (0 ∷ []) (replicate 13 7) (gives 12) (b ++ (7 ∷ []))
    -- 3, 4, 5 and 7
    ∷ searches a 250 (gives (found 1 3)) ∷ searches a 251 (gives (found 3 3)) ∷ searches a 1001 (gives (found 5 2)) ∷ searches (image (5 ∷ 5 ∷ 5 ∷ [])) 5 (gives (found 0 2))
    -- 6, and no targets
    ∷ sweeps a (250 ∷ 251 ∷ 1001 ∷ []) (replicate 3 7) (gives 5) (1 ∷ 3 ∷ 5 ∷ []) ∷ sweeps a [] [] (gives 0) []
    -- 8, and the greatest time
    ∷ up_tos a 250 (gives (found 3 3)) ∷ up_tos a 4294967295 (gives (found 5 0))
    -- 9
    ∷ root 1 1 ∷ root 2 2 ∷ root 3 2 ∷ root 4 3 ∷ root 5 4 ∷ root 6 4
    -- 10
    ∷ repeats a 150 (gives (Some 2)) ∷ repeats a 0 (gives None)
    -- A and B are accepted, and A unpacks, with an entry more than is needed
    ∷ checks a (gives 5) ∷ checks b (gives 1) ∷ unpacks a (replicate 6 7) (gives 5) (list_a ++ (7 ∷ []))
    -- list A by access
    ∷ accesses a 0 (gives (found 100 3)) ∷ accesses a 1 (gives (found 250 2)) ∷ accesses a 2 (gives (found 250 3)) ∷ accesses a 3 (gives (found 400 1)) ∷ accesses a 4 (gives (found 1000 2))
    -- list A by the steps of a pin walker, then end, there and beyond
    ∷ steps a 0 (gives (Some (found 100 3))) 1 ∷ steps a 1 (gives (Some (found 250 2))) 2 ∷ steps a 2 (gives (Some (found 250 3))) 3 ∷ steps a 3 (gives (Some (found 400 1))) 4
    ∷ steps a 4 (gives (Some (found 1000 2))) 5 ∷ steps a 5 (gives None) 5 ∷ steps a 4294967296 (gives None) 4294967296
    -- a refused step does not move it; beyond the end only opening is refused, and it does not look for 11
    ∷ steps bare 0 (refuses 9 1) 0 ∷ steps low 0 (refuses 10 2) 0 ∷ steps low 2 (gives None) 2 ∷ steps (take 3 b) 7 (refuses 5 0) 7
    ∷ steps fallen 3 (gives (Some (found 400 1))) 4
    -- the greatest pin count has the greatest height, and one more has not
    ∷ tall max_pins max_height ∷ tall (max_pins + 1) (max_height + 1)
    -- examples of refusals 1, 3 and 4
    ∷ packs [] (7 ∷ []) (refuses 1 0) (7 ∷ []) ∷ packs (7 ∷ 6 ∷ []) (7 ∷ []) (refuses 3 1) (7 ∷ []) ∷ packs (0 ∷ []) (replicate 11 7) (refuses 4 12) (replicate 11 7)
    -- of 5, 6, 7, 8, 13 and 14
    ∷ searches (take 3 b) 0 (refuses 5 0) ∷ searches (set b 2 0x4f) 0 (refuses 6 0) ∷ searches (set b 4 2) 0 (refuses 7 0) ∷ searches (set b 7 33) 0 (refuses 8 1)
    ∷ searches (b ++ (0 ∷ [])) 0 (refuses 13 0) ∷ accesses a 5 (refuses 14 0)
    -- of 9 and 10
    ∷ accesses bare 0 (refuses 9 1) ∷ searches low 0 (refuses 10 2)
    -- of 11 and 12, and of 4 for unpack
    ∷ checks fallen (refuses 11 3) ∷ checks wasteful (refuses 12 0) ∷ unpacks a (replicate 4 7) (refuses 4 5) (replicate 4 7)
    -- a refused check writes nothing; repeat does not look for 12, and tells 11 or the gap by what comes first
    ∷ unpacks wasteful (7 ∷ []) (refuses 12 0) (7 ∷ []) ∷ repeats wasteful 1340 (gives None)
    ∷ repeats fallen 150 (refuses 11 3) ∷ repeats fallen 151 (gives (Some 1)) ∷ repeats low 1 (refuses 10 2)
    -- of 15 and 16, both after opening
    ∷ sweeps a (1 ∷ 2 ∷ []) (replicate 3 7) (refuses 15 0) (replicate 3 7) ∷ sweeps a (9 ∷ 8 ∷ []) (replicate 2 7) (refuses 16 1) (replicate 2 7)
    ∷ sweeps (take 3 b) (9 ∷ 8 ∷ []) (7 ∷ []) (refuses 5 0) (7 ∷ []) ∷ sweeps a (9 ∷ 8 ∷ []) (7 ∷ []) (refuses 15 0) (7 ∷ [])
    -- a sweep met by 9 or 10 has written the answers before it, and one by no targets opens no node
    ∷ sweeps chunkless (5 ∷ 6 ∷ 7 ∷ []) (replicate 3 7) (refuses 9 3) (0 ∷ 7 ∷ 7 ∷ []) ∷ sweeps high (5 ∷ 6 ∷ 7 ∷ []) (replicate 3 7) (refuses 10 3) (0 ∷ 7 ∷ 7 ∷ [])
    ∷ sweeps bare [] [] (gives 0) []
    -- opening's own 1 and second 5; two faults at once, of which the first tested is told; no refusal but opening's at the greatest time
    ∷ searches (set b 6 0) 0 (refuses 1 0) ∷ searches (set b 6 5) 0 (refuses 5 0)
    ∷ searches (set (set b 4 2) 6 0) 0 (refuses 7 0) ∷ searches (set b 7 33 ++ (0 ∷ [])) 0 (refuses 8 1)
    ∷ up_tos (b ++ (0 ∷ [])) 4294967295 (refuses 13 0) ∷ up_tos low 4294967295 (gives (found 2 0))
    -- of 23: n = 1 in width 1 and no bytes; the same with a byte after it, where 13 holds too; a cut and a too long level; width 0 with a byte
    ∷ accesses (set b 7 1) 0 (refuses 23 1) ∷ searches (set b 7 1 ++ (0 ∷ [])) 0 (refuses 23 1)
    ∷ checks cut (refuses 23 2) ∷ repeats long 0 (refuses 23 2) ∷ unpacks (set b 11 1 ++ (0 ∷ [])) (7 ∷ []) (refuses 23 1) (7 ∷ [])
    -- a cut level 2 before a refused code of level 3, and after one of level 1; it writes nothing
    ∷ sweeps (set (set a 12 13) 17 33) (5 ∷ []) (7 ∷ []) (refuses 23 2) (7 ∷ []) ∷ steps (set cut 7 33) 0 (refuses 8 1) 0
    ∷ []

-- what a case says; `marked-says` in proofs/Marked has it of each entry
abbrev pub Says : Case → Type 0
Says (packs xs out r after) = (pack_of xs (length out) ≡ r) × (pack_output xs out ≡ after)
Says (accesses s i r) = access_of s i ≡ r
Says (searches s t r) = search_of s t ≡ r
Says (up_tos s t r) = up_to_of s t ≡ r
Says (sweeps s ts out r after) = (sweep_of s ts (length out) ≡ r) × (sweep_output s ts out ≡ after)
Says (checks s r) = check_of s ≡ r
Says (unpacks s out r after) = (unpack_of s (length out) ≡ r) × (unpack_output s out ≡ after)
Says (repeats s r x) = repeat_of s r ≡ x
Says (steps s i x j) = (step_of s i ≡ x) × (next_of s i ≡ j)
Says (root n p) = root_place n ≡ p
Says (tall n h) = height n ≡ h

-- ---- as a test that is computed

abbrev pub same_option : {A : Type 0} → (A → A → Bool) → Option A → Option A → Bool
same_option equal None None = true
same_option equal None (Some b) = false
same_option equal (Some a) None = false
same_option equal (Some a) (Some b) = equal a b

abbrev pub same_outcome : {A : Type 0} → (A → A → Bool) → Outcome A → Outcome A → Bool
same_outcome equal (gives a) (gives b) = equal a b
same_outcome equal (gives a) (refuses q d) = false
same_outcome equal (refuses r c) (gives b) = false
same_outcome equal (refuses r c) (refuses q d) = eqb r q && eqb c d

abbrev pub same_found : Found → Found → Bool
same_found f g = eqb f.value g.value && eqb f.nodes g.nodes

abbrev pub passes : Case → Bool
passes (packs xs out r after) = same_outcome eqb (pack_of xs (length out)) r && same (pack_output xs out) after
passes (accesses s i r) = same_outcome same_found (access_of s i) r
passes (searches s t r) = same_outcome same_found (search_of s t) r
passes (up_tos s t r) = same_outcome same_found (up_to_of s t) r
passes (sweeps s ts out r after) = same_outcome eqb (sweep_of s ts (length out)) r && same (sweep_output s ts out) after
passes (checks s r) = same_outcome eqb (check_of s) r
passes (unpacks s out r after) = same_outcome eqb (unpack_of s (length out)) r && same (unpack_output s out) after
passes (repeats s r x) = same_outcome (same_option eqb) (repeat_of s r) x
passes (steps s i x j) = same_outcome (same_option same_found) (step_of s i) x && eqb (next_of s i) j
passes (root n p) = eqb (root_place n) p
passes (tall n h) = eqb (height n) h

abbrev pub all : List Case → Bool
all [] = true
all (c ∷ cs) = passes c && all cs

pub marked-pass : all marked ≡ true
unfolding bits number sum fixed numbers padded kind_of rest layers kind_bits width_in widest best_chunked chosen fixed_at fetch_layers chunked_at fetched
    height root_place child_of stretch_in stretch rank ordered time_of time_above stored stored_from fetched_at node_time_in node_time walk_in walk met
    toward last_of access_answer remember target_from dropped legs_from opened positions first_lower test verdict end_after filled laid_out code_for
    part_for joined strip_of entries_tests opening pack_of pack_output access_of search_of up_to_of sweep_of sweep_output times_from positions_tests list_in
    check_of plain_list unpack_of unpack_output repeat_from repeat_of step_of next_of
marked-pass = refl
