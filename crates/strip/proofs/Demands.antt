-- The demands of specs/Demands.
use mathlib.Core.Path.{◌≡◌, refl, sym, ap, subst, ◌∙◌}
use mathlib.Core.Logic.{◌↔◌}
use mathlib.Core.Bool.{true, not, cond}
use mathlib.Core.List.{List, [], ◌∷◌, ◌++◌, map, append-nil}
use Rattle.std.specs.Prelude.{Option, None, Some, Result, Ok, Err}
use Prim.Native.Nat.{ℕ, zero, suc, ◌≤◌, ◌<◌}
use native.Mathlib.Nat.{le_refl}
use native.Mathlib.Decide.{dec_lt}
use native.Mathlib.Omega.{arith}
use lib.Dec.{T, eqb, ltb, leb}
use lib.ListN.{length, take, drop, get_or, length-map, drop_of_length-le}
use lib.Seq.{take_at}
use borrow.Author.Tests.{eqb-false, ltb-false, not-false, ne_eqb, le-ltb, lt-leb, le-leb}
use lib.Ieee.Bits.{is_true}
use Rattle.codes.proofs.Promises.{list-laws}
use Rattle.codes.specs.Lists.{at_front}
use Rattle.codes.specs.Codes.{Within}
use Rattle.tree.specs.declared.nodes.Levels.{Levels}
use Rattle.tree.specs.Lists.{ordered, smaller}
use Rattle.tree.specs.declared.walking.Found.{Found}
use Rattle.tree.specs.Outcomes.{Outcome, gives, refuses, after, test, verdict}
use Rattle.tree.specs.Times.{times_in}
use Rattle.tree.specs.Walks.{found, toward, path}
use Rattle.tree.specs.Sweeps.{different}
use Rattle.tree.specs.Promises.{Held, Contents}
use Rattle.tree.proofs.Promises.{held_reads, different-few, outcome-laws}
use Rattle.strip.specs.declared.refusals.Refusal.{Refusal}
use Rattle.strip.specs.Refusals.{outcome}
use Rattle.strip.specs.declared.walker.Walker.{Walker}
use Rattle.strip.specs.Layout.{max_pins}
use Rattle.strip.specs.Image.{Packable, image}
use Rattle.strip.specs.Opening.{opening}
use Rattle.strip.specs.Calls.{pack_of, written, pack_output, search_of, sweep_of, sweep_output, list_in, check_in, check_of, plain_list, unpack_of, unpack_output, moved_by, step_of, next_of, walker_step, walker_after, walker_after_steps}
use Rattle.strip.specs.Promises.{Opens}
use Rattle.strip.specs.Demands.{PacksTo, UnpacksTo, Accepted, CheckAccepts, Demand2, SweepsAs, Demand3, WalkerLists}
use Rattle.strip.proofs.Verdicts.{verdict-passed}
use Rattle.strip.proofs.Sweeps.{targets-follow}
use Rattle.strip.proofs.Readings.{check-lists}
use Rattle.strip.proofs.OpenImages.{open-packable}
use Rattle.strip.proofs.Checks.{accepts}
use Rattle.strip.proofs.Promises.{image-opens, round_trip}

-- ---- an answer of the code that gives something

given : {A : Type 0} (r : Result A Refusal) (a : A) → outcome r ≡ gives a → r ≡ Ok a
given (Ok b) a e = ap Ok (outcome-laws.same e)
given (Err r) a e = absurd (outcome-laws.never (sym e))

-- ---- from a list to its strip

packs : (xs : List ℕ) → Packable xs → (out : List ℕ) → length (image xs) ≤ length out → PacksTo xs (image xs) out
unfolding pack_of pack_output verdict test
packs xs p out room =
    rw (ne_eqb (length xs) 0 (λ e. omega (arith, p.some)), le-ltb max_pins (length xs) p.few, is_true (ordered xs) p.in_order, le-ltb (length out) (length (image xs)) room)
    (refl, refl)

-- the strip's levels hold the list, so check and unpack read it back
module _ (xs : List ℕ) (p : Packable xs) where
  abbrev levels : Levels
  levels = (image-opens xs p).0

  opens : Opens xs levels
  opens = (image-opens xs p).1

  held : Held levels (image xs) xs
  held = record { in_order = p.in_order; times = p.times; stores = opens.bits.stores }

  reads : Contents levels.pins (times_in levels (image xs)) xs
  reads = held_reads levels (image xs) xs held

  list_back : list_in (image xs) levels ≡ xs
  unfolding list_in
  list_back = reads.times

  plain_back : plain_list (image xs) ≡ xs
  unfolding plain_list
  plain_back = rw opens.bits.opened list_back

  check-back : check_of (image xs) ≡ gives (length xs)
  unfolding check_of verdict test
  check-back =
      let o : ordered xs ≡ true = is_true (ordered xs) p.in_order in
      rw opens.bits.opened (check-lists (image xs) levels ∙ rw (list_back, o, reads.stop, list-laws.same_itself (image xs)) (ap gives held.stores.pins_are))

  unpacks-back : (out : List ℕ) → length xs ≤ length out → UnpacksTo (image xs) xs out
  unfolding unpack_of unpack_output verdict test
  unpacks-back out room = rw (check-back, plain_back, le-ltb (length out) (length xs) room) (refl, refl)

  -- a sweep of it counts the different nodes, and leaves the numbers of smaller times
  sweep-back : (ts answers : List ℕ) → length answers ≡ length ts → T (ordered ts)
      → (sweep_of (image xs) ts (length answers) ≡ gives (different xs ts)) × (sweep_output (image xs) ts answers ≡ at_front (map (λ t. smaller t xs) ts) answers)
  unfolding sweep_of sweep_output
  sweep-back ts answers e o =
      rw (opens.bits.opened, targets-follow levels ts (length answers) e (is_true (ordered ts) o), reads.sweep ts o, reads.positions ts o) (refl, refl)

-- ---- from a strip to its list

module _ (xs s out : List ℕ) (to : PacksTo xs s out) where
  length-is : length (image xs) ≡ length s
  unfolding pack_of
  length-is = outcome-laws.given _ (length (image xs)) (length s) to.0

  -- both stand at the front of the output
  image-is : s ≡ image xs
  unfolding pack_output
  image-is =
      let e : image xs ++ drop (length (image xs)) out ≡ s ++ drop (length s) out = ap (λ (o : Outcome ℕ). written o (image xs) out) (sym to.0) ∙ to.1 in
      sym (take_at s (drop (length s) out) (length s) refl) ∙ ap (take (length s)) (sym e) ∙ take_at (image xs) (drop (length (image xs)) out) (length s) length-is

  packable : Within 32 xs → Packable xs
  unfolding pack_of
  packable w =
      let a = verdict-passed (eqb (length xs) 0) _ _ _ _ _ to.0 in
      let b = verdict-passed (ltb max_pins (length xs)) _ _ _ _ _ a.1 in
      let c = verdict-passed (not (ordered xs)) _ _ _ _ _ b.1 in
      record {
        some = omega (arith, eqb-false (length xs) 0 a.0);
        few = ltb-false max_pins (length xs) b.0;
        times = w;
        in_order = rw (not-false (ordered xs) c.0) tt;
      }

-- ---- check

module _ (s : List ℕ) (levels : Levels) (o : opening s ≡ gives levels) (n : ℕ) (e : check_in s levels ≡ gives n) where
  abbrev xs : List ℕ
  xs = list_in s levels

  read-image : image xs ≡ s
  read-image = list-laws.same_lists (image xs) s (accepts s levels n (sym e)).image-is

  read-packable : Packable xs
  read-packable = let a = accepts s levels n (sym e) in open-packable s levels o a.all a.in_order read-image

accepted : (s : List ℕ) → CheckAccepts s → Accepted s
unfolding check_of
accepted s (n, e) = go (opening s) refl e
  where
    go : (o : Outcome Levels) → opening s ≡ o → after o (check_in s) ≡ gives n → Accepted s
    go (gives levels) o c =
        let p = read-packable s levels o n c in
        let ys = xs s levels o n c in
        (ys, p.times, (image ys, subst (λ (l : List ℕ). PacksTo ys l (image ys)) (read-image s levels o n c) (packs ys p (image ys) (le_refl (length (image ys))))))
    go (refuses r q) o c = absurd (outcome-laws.never (sym c))

counts : (s xs out : List ℕ) → Within 32 xs → PacksTo xs s out → check_of s ≡ gives (length xs)
counts s xs out w to = ap check_of (image-is xs s out to) ∙ check-back xs (packable xs s out to w)

check-accepts : (s : List ℕ) → Accepted s → CheckAccepts s
check-accepts s (xs, w, (out, to)) = (length xs, counts s xs out w to)

code_accepts : (s : List ℕ) (r : Result ℕ Refusal) → outcome r ≡ check_of s → ((n : ℕ) × (r ≡ Ok n)) ↔ Accepted s
code_accepts s r e = (
  λ (n, is). accepted s (n, sym e ∙ ap outcome is),
  λ a. let (n, c) = check-accepts s a in (n, given r n (e ∙ c)),
)

one_list : (s xs out : List ℕ) → Within 32 xs → PacksTo xs s out → Packable xs × (xs ≡ plain_list s)
one_list s xs out w to =
    let p = packable xs s out to w in
    (p, sym (ap plain_list (image-is xs s out to) ∙ plain_back xs p))

pin_count : (s : List ℕ) → Accepted s → check_of s ≡ gives (length (plain_list s))
pin_count s (xs, w, (out, to)) = counts s xs out w to ∙ ap (λ (l : List ℕ). gives (length l)) (one_list s xs out w to).1

searches : (s : List ℕ) → Accepted s → (t : ℕ) → search_of s t ≡ gives (found (smaller t (plain_list s)) (length (path (plain_list s) t)))
searches s (xs, w, (out, to)) t =
    let one = one_list s xs out w to in
    ap (λ (l : List ℕ). search_of l t) (image-is xs s out to) ∙ (round_trip xs one.0).search t ∙ ap (λ (l : List ℕ). gives (found (smaller t l) (length (path l t)))) one.1

code_searches : (s : List ℕ) → Accepted s → (t : ℕ) (r : Result Found Refusal) → outcome r ≡ search_of s t → r ≡ Ok (found (smaller t (plain_list s)) (length (path (plain_list s) t)))
code_searches s a t r e = given r _ (e ∙ searches s a t)

pub demand-2 : Demand2
demand-2 = record {
  packs = packs;
  code_packs = λ xs p out room r after e q. let to = packs xs p out room in (given r (length (image xs)) (e ∙ to.0), q ∙ to.1);
  one_strip = image-is;
  fewest_bits = λ xs p. (levels xs p, (opens xs p).bits);
  unpacks = unpacks-back;
  code_unpacks = λ xs p out room r after e q. let to = unpacks-back xs p out room in (given r (length xs) (e ∙ to.0), q ∙ to.1);
  accepts = λ s. (accepted s, check-accepts s);
  code_accepts = code_accepts;
  pin_count = pin_count;
  one_list = one_list;
  searches = searches;
  code_searches = code_searches;
}

-- ---- sweep

-- in range, whatever f gives at 0
map_at : (f : ℕ → ℕ) (ts : List ℕ) (i : ℕ) → i < length ts → get_or (map f ts) i 0 ≡ f (get_or ts i 0)
map_at f [] i h = absurd (omega arith)
map_at f (t ∷ ts) zero h = refl
map_at f (t ∷ ts) (suc i) h = map_at f ts i (omega arith)

module _ (s ts answers : List ℕ) (a : Accepted s) (o : T (ordered ts)) (e : length answers ≡ length ts) where
  abbrev positions : List ℕ
  positions = map (λ t. smaller t (plain_list s)) ts

  swept_as : (sweep_of s ts (length answers) ≡ gives (different (plain_list s) ts)) × (sweep_output s ts answers ≡ at_front positions answers)
  swept_as =
      let (xs, w, (out, to)) = a in
      let one = one_list s xs out w to in
      rw (← one.1, image-is xs s out to) (sweep-back xs one.0 ts answers e o)

  -- the answers hold the positions and nothing else
  answers-are : sweep_output s ts answers ≡ positions
  answers-are =
      swept_as.1
      ∙ ap (λ (l : List ℕ). positions ++ l) (drop_of_length-le answers {i = length positions} (omega (arith, length-map ts (λ t. smaller t (plain_list s)))))
      ∙ append-nil positions

  position_at : (i : ℕ) → i < length ts → get_or (sweep_output s ts answers) i 0 ≡ smaller (get_or ts i 0) (plain_list s)
  position_at i h = ap (λ (l : List ℕ). get_or l i 0) answers-are ∙ map_at (λ t. smaller t (plain_list s)) ts i h

  sweeps : SweepsAs s ts (different (plain_list s) ts) (sweep_output s ts answers)
  sweeps = record {
    searches = λ i h. searches s a (get_or ts i 0) ∙ ap (λ (p : ℕ). gives (found p (length (path (plain_list s) (get_or ts i 0))))) (sym (position_at i h));
    positions = position_at;
    count = ap length answers-are ∙ length-map ts (λ t. smaller t (plain_list s));
    different_nodes = refl;
    at_most_pins = different-few.pins (plain_list s) ts;
    at_most_heights = different-few.heights (plain_list s) ts;
  }

  code_sweeps : (r : Result ℕ Refusal) (after : List ℕ) → outcome r ≡ sweep_of s ts (length answers) → after ≡ sweep_output s ts answers
      → (nodes : ℕ) × (r ≡ Ok nodes) × SweepsAs s ts nodes after
  code_sweeps r after h q = (different (plain_list s) ts, given r _ (h ∙ swept_as.0), subst (SweepsAs s ts (different (plain_list s) ts)) (sym q) sweeps)

pub demand-3 : Demand3
demand-3 = record {
  sweeps = λ s ts answers a o e. (different (plain_list s) ts, (swept_as s ts answers a o e).0, sweeps s ts answers a o e);
  code_sweeps = code_sweeps;
}

-- ---- the pin walker

step-of : (s : List ℕ) → Accepted s → (i : ℕ)
    → step_of s i ≡ gives (cond (leb (length (plain_list s)) i) None (Some (found (get_or (plain_list s) i 0) (length (toward (length (plain_list s)) i)))))
step-of s (xs, w, (out, to)) i = let one = one_list s xs out w to in rw (← one.1, image-is xs s out to) ((round_trip xs one.0).step i)

module _ (w : Walker) (start : w.next ≡ 0) (a : Accepted w.strip.now) where
  abbrev times : List ℕ
  times = plain_list w.strip.now

  step-time : (k : ℕ) → k < length times → step_of w.strip.now k ≡ gives (Some (found (get_or times k 0) (length (toward (length times) k))))
  step-time k l = step-of w.strip.now a k ∙ rw (lt-leb (length times) k l)

  step_end : (k : ℕ) → length times ≤ k → step_of w.strip.now k ≡ gives None
  step_end k l = step-of w.strip.now a k ∙ rw (le-leb (length times) k l)

  abbrev at : ℕ → Walker
  at k = record { strip = w.strip; next = k }

  -- after as many steps as there are pins, or fewer, the walker has moved on at each
  within : (k : ℕ) → k ≤ length times → walker_after_steps k w ≡ at k
  unfolding walker_after_steps next_of
  within zero l = λ i. at (start i)
  within (suc k) l = ap walker_after (within k (omega arith)) ∙ ap (λ (z : Outcome (Option Found)). at (moved_by z k)) (step-time k l)

  -- and after more it stands at the end
  beyond : (k : ℕ) → length times ≤ k → walker_after_steps k w ≡ at (length times)
  unfolding walker_after_steps next_of
  beyond zero l = within zero (omega arith) ∙ ap at (omega arith)
  beyond (suc k) l = elim (dec_lt k (length times)) [
    | yes h ↦ within (suc k) h ∙ ap at (omega arith)
    | no h ↦ ap walker_after (beyond k (omega arith)) ∙ ap (λ (z : Outcome (Option Found)). at (moved_by z (length times))) (step_end (length times) (le_refl (length times)))
  ]

pub walker-lists : WalkerLists
walker-lists = record {
  times = λ w start a k l. ap walker_step (within w start a k (omega arith)) ∙ step-time w start a k l;
  ends = λ w start a k l. ap walker_step (beyond w start a k l) ∙ step_end w start a (length (plain_list w.strip.now)) (le_refl (length (plain_list w.strip.now)));
}
