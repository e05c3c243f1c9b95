-- The promises of specs/Promises.
use mathlib.Core.Path.{◌≡◌, refl, sym, ap, ◌∙◌}
use mathlib.Core.Bool.{Bool, true, false, cond}
use mathlib.Core.List.{List}
use Rattle.std.specs.Prelude.{Some, None}
use Prim.Native.Nat.{ℕ, suc, ◌-◌, ◌^◌, ◌≤◌, ◌<◌}
use native.Mathlib.Decide.{dec_lt}
use native.Mathlib.Omega.{arith}
use lib.Dec.{leb}
use lib.ListN.{length}
use borrow.Author.Tests.{lt-leb, le-leb, eq-eqb, ne_eqb}
use Rattle.codes.specs.Promises.{Best}
use Rattle.codes.proofs.Promises.{best-choice}
use Rattle.tree.specs.declared.nodes.Levels.{Levels}
use Rattle.tree.specs.Stored.{stored_values}
use Rattle.tree.specs.Levels.{level_values}
use Rattle.tree.specs.Listing.{accesses}
use Rattle.tree.specs.Promises.{Held, Contents}
use Rattle.tree.specs.declared.walking.Found.{Found}
use Rattle.tree.specs.Outcomes.{Outcome, gives, refuses, after, test}
use Rattle.tree.specs.Times.{times_in}
use Rattle.tree.proofs.Promises.{stored-levels, shape, held_reads, access-opens, outcome-laws}
use Rattle.strip.specs.Image.{Packable, code_for, planned, image}
use Rattle.strip.specs.Opening.{opening}
use Rattle.strip.specs.Calls.{access_in, access_of, search_of, up_to_of, repeat_from, repeat_of, step_in, step_of}
use Rattle.strip.specs.Promises.{RoomEnough, Opens, ImageOpens, ReadsBack, RoundTrip, RepeatLater, TimeOpens, NineChunked}
use Rattle.strip.proofs.Counts.{smaller-next, up_to-all}
use Rattle.strip.proofs.Images.{within, list-opens, image_code, image-stores}
use Rattle.strip.proofs.Layouts.{height_fits}
use Rattle.strip.proofs.Nines.{only_chunked}
use Rattle.strip.proofs.Readings.{position_or1, repeat-lists, repeat-positive, gap-ordered}
use Rattle.strip.proofs.Plans.{strip-small, values-within}

module _ (xs : List ℕ) (p : Packable xs) where
  opened : opening (image xs) ≡ gives (planned (stored_values xs))
  opened = list-opens xs p

  held : Held (planned (stored_values xs)) (image xs) xs
  held = record { in_order = p.in_order; times = p.times; stores = image-stores xs p }

  reads : Contents (planned (stored_values xs)).pins (times_in (planned (stored_values xs)) (image xs)) xs
  reads = held_reads (planned (stored_values xs)) (image xs) xs held

  image-opened : Opens xs (planned (stored_values xs))
  unfolding code_for
  image-opened = record {
    bits = record {
      opened = opened;
      shape = shape (length xs);
      node_times = reads.node;
      stores = held.stores;
      fewest = λ d code b h. rw (image_code xs p d b) (omega (arith, (best d).fewest code h, (best d).its_size));
      on_tie = λ d code b h e. rw (image_code xs p d b) ((best d).on_tie code h (rw (image_code xs p d b) at e ∙ sym (best d).its_size));
    };
    nodes = reads.path_nodes;
  }
    where
      best : (d : ℕ) → Best (level_values (stored_values xs) d)
      best d = best-choice (level_values (stored_values xs) d) (values-within (stored_values xs) (within xs p) d)

  pins : (planned (stored_values xs)).pins ≡ length xs
  pins = held.stores.pins_are

  back : ReadsBack xs
  unfolding access_of search_of up_to_of repeat_of step_of test
  back = record {
    access = λ i l. rw (opened, lt-leb (planned (stored_values xs)).pins i (rw pins l)) (reads.access i l);
    search = λ t. rw opened (reads.search t);
    repeat = λ r. rw opened (repeat-lists (accesses (planned (stored_values xs)) (image xs)) r (planned (stored_values xs)).pins
        ∙ rw (reads.times, reads.stop) (gap-ordered r xs p.in_order));
    up_to = λ t h. rw opened (elim (dec_lt t (2 ^ 32 - 1)) [
      | yes l ↦ rw (ne_eqb t (2 ^ 32 - 1) (λ e. omega arith), ← (smaller-next t xs)) (reads.search (suc t))
      | no n ↦ rw (eq-eqb t (2 ^ 32 - 1) (omega arith), pins, up_to-all t xs (λ i. omega (arith, p.times i)))
    ]);
    step = λ i. elim (dec_lt i (length xs)) [
      | yes l ↦ rw (opened, lt-leb (planned (stored_values xs)).pins i (rw pins l), lt-leb (length xs) i l, reads.access i l)
      | no l ↦ rw (opened, le-leb (planned (stored_values xs)).pins i (rw pins (omega arith)), le-leb (length xs) i (omega arith))
    ];
  }

pub room-enough : RoomEnough
room-enough xs p =
    let small = rw (stored-levels.count xs) at (strip-small (stored_values xs) (within xs p)) in
    (small, omega (arith, small, height_fits (length xs) (omega (arith, p.few)), p.few))

pub image-opens : ImageOpens
image-opens xs p = (planned (stored_values xs), image-opened xs p)

pub round_trip : RoundTrip
round_trip = back

pub repeat-later : RepeatLater
unfolding repeat_of
repeat-later s r i e = rw (ap position_or1 e) at (go (opening s))
  where
    go : (o : Outcome Levels) → 1 ≤ position_or1 (after o (λ levels. repeat_from (accesses levels s) r levels.pins 0))
    go (gives levels) = repeat-positive (accesses levels s) r levels.pins
    go (refuses q c) = omega arith

-- what an access gives has 32 bits, and a node or more
opens-some : (s : List ℕ) (i : ℕ) (levels : Levels) (f : Found) → access_in s i levels ≡ gives f → (f.value < 2 ^ 32) × (1 ≤ f.nodes)
unfolding test
opens-some s i levels f e = elim (dec_lt i levels.pins) [
  | yes l ↦
      let given : accesses levels s i ≡ gives f = rw (lt-leb levels.pins i l) at e in
      (access-opens.small levels s i f given, omega (arith, access-opens.count levels.pins _ i f given, access-opens.some levels.pins i (omega arith)))
  | no l ↦ absurd (outcome-laws.never (sym (rw (le-leb levels.pins i (omega arith)) at e)))
]

pub time-opens : TimeOpens
unfolding access_of step_of
time-opens = record { access = λ s i f. access s i f (opening s); step = λ s i f. step s i f (opening s) }
  where
    access : (s : List ℕ) (i : ℕ) (f : Found) (o : Outcome Levels) → after o (access_in s i) ≡ gives f → (f.value < 2 ^ 32) × (1 ≤ f.nodes)
    access s i f (gives levels) e = opens-some s i levels f e
    access s i f (refuses r c) e = absurd (outcome-laws.never (sym e))

    step : (s : List ℕ) (i : ℕ) (f : Found) (o : Outcome Levels) → after o (step_in s i) ≡ gives (Some f) → (f.value < 2 ^ 32) × (1 ≤ f.nodes)
    step s i f (refuses r c) e = absurd (outcome-laws.never (sym e))
    step s i f (gives levels) e = go (leb levels.pins i) (access_in s i levels) refl e
      where
        go : (b : Bool) (a : Outcome Found) → access_in s i levels ≡ a → cond b (gives None) (after a (λ g. gives (Some g))) ≡ gives (Some f) → (f.value < 2 ^ 32) × (1 ≤ f.nodes)
        go true a p q = absurd (let z : ◌≡◌ {A = ℕ} 0 1 = cc in omega arith)
        go false (gives g) p q = opens-some s i levels f (p ∙ ap gives (same q))
          where
            same : gives (Some g) ≡ gives (Some f) → g ≡ f
            same h = cc
        go false (refuses r c) p q = absurd (outcome-laws.never (sym q))

pub nine-chunked : NineChunked
nine-chunked = only_chunked
