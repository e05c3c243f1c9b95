-- The remembered nodes of a sweep: what a step down adds to them.
use mathlib.Core.Path.{◌≡◌, refl, sym, subst, ◌∙◌}
use mathlib.Core.Bool.{Bool, true, false, cond}
use mathlib.Core.List.{List, ◌∷◌}
use Prim.Native.Nat.{ℕ, zero, suc, ◌+◌, ◌-◌, ◌/◌, ◌≤◌, ◌<◌}
use native.Mathlib.Nat.{le_refl, zero-add}
use native.Mathlib.Numerals.{add-one}
use native.Mathlib.Decide.{dec_lt}
use native.Mathlib.Omega.{arith}
use lib.Dec.{ltb}
use lib.ListN.{length, get_or, set, length-set}
use lib.Seq.{get_or-set_same, get_or-set_other}
use borrow.Author.Tests.{lt-ltb, le-ltb}
use Rattle.tree.specs.declared.nodes.Levels.{Levels}
use Rattle.tree.specs.declared.targets.Progress.{Progress}
use Rattle.tree.specs.Shape.{height, child_of}
use Rattle.tree.specs.Levels.{Fits}
use Rattle.tree.specs.Outcomes.{gives}
use Rattle.tree.specs.Times.{times_in}
use Rattle.tree.specs.Walks.{kept_from, target_from}
use Rattle.tree.specs.declared.targets.Remembered.{Remembered}
use Rattle.tree.specs.Remembering.{empty, entries, Place, Entry, GoesOn, Remembers, answer_on, kept_on, Comes}
use Rattle.tree.proofs.Heights.{height-mono, height-above, height-step}
use Rattle.tree.proofs.Stretches.{stretch-root, stretch-child}
use Rattle.tree.proofs.NodeFetches.{pins-bound}
use Rattle.tree.proofs.Walks.{parent_of, height-child}
use Rattle.tree.proofs.Steps.{root-depth, stands-root, stands-place, stands-child, side-ends, kept_step, target-step}

-- ---- a node more

entries-set : (xs : List Remembered) (c i : ℕ) (r : Remembered) → i ≤ c → entries (set xs c r) i ≡ entries xs i
unfolding entries
entries-set xs c zero r h = refl
entries-set xs c (suc i) r h = rw (get_or-set_other xs c i r empty (λ e. omega (arith, e)), entries-set xs c i r (omega arith))

entries-added : (xs : List Remembered) (c : ℕ) (r : Remembered) → c < length xs → entries (set xs c r) (c + 1) ≡ r.v ∷ entries xs c
unfolding entries
entries-added xs c r h = rw (add-one c, get_or-set_same xs c r empty h, entries-set xs c c r (le_refl c))

-- ---- one step down

-- where a sweep stands that leaves node v, whose time is x, by a side; to the left the node is remembered
pub place-side : {levels : Levels} {s kept : List ℕ} {i v above x : ℕ} → Place levels s kept i v above → v ≤ levels.pins → times_in levels s v ≡ gives x
    → (right : Bool) (j : ℕ) → j ≤ i + 1 → Place levels s (cond right kept (v ∷ kept)) j (child_of right v) x
place-side {levels} {s} {kept} {i} {v} {above} {x} p l e right j h =
    let one = p.stands.one in
    let deeper = height-child right v one in
    let d : height (child_of right v) - 1 ≡ height v - 1 + 1 = omega (arith, height-above v 0 one) in
    record {
      stands = rw (d, stretch-child levels.pins right v one) (stands-child p.stands right x l e);
      child = rw (parent_of right v) l;
      ends = rw (stretch-child levels.pins right v one) (sym (side-ends p.stands l right kept (sym p.ends)));
      deep = omega (arith, p.deep);
    }

-- before the first target
pub goes-root : (levels : Levels) (s : List ℕ) {kept : List Remembered} → length kept ≡ 16
    → GoesOn levels s (record { kept = kept; count = 0; v = 1; above = 0; opened = 0 })
unfolding entries
goes-root levels s a = record {
  size = a;
  entry = λ i h. absurd (omega arith);
  place = record {
    stands = rw (root-depth, stretch-root levels.pins) (stands-root levels s);
    child = omega arith;
    ends = rw (stretch-root levels.pins) (zero-add levels.pins);
    deep = height-above 1 0 (le_refl 1);
  };
  few = omega arith;
}

module _ {levels : Levels} {s : List ℕ} {p : Progress} (g : GoesOn levels s p) (f : Fits levels s) where
  pub count_under : p.v ≤ levels.pins → p.count < 16
  count_under l = omega (arith, g.place.deep, height-mono p.v levels.pins l, f.height_fits)

  -- no more nodes are remembered than there are levels
  pub remembers : Remembers p
  remembers = record {
    few = omega (arith, g.place.deep, height-step p.v g.place.stands.one, height-mono (p.v / 2) levels.pins g.place.child, f.height_fits);
    small = λ i h. omega (arith, (g.entry i h).among, pins-bound levels s f);
  }

-- a target's step from node v, whose time is x, to the child that the comparison tells
module _ {levels : Levels} {s : List ℕ} {from p : Progress} (t : ℕ) (m : Comes levels s t from p) (f : Fits levels s)
    (l : p.v ≤ levels.pins) {x : ℕ} (e : times_in levels s p.v ≡ gives x) where
  abbrev n : ℕ
  n = levels.pins

  abbrev c : ℕ
  c = p.count

  abbrev v : ℕ
  v = p.v

  abbrev g : GoesOn levels s p
  g = m.goes

  abbrev kept : List ℕ
  kept = entries p.kept p.count

  answer-next : (right : Bool) → ltb x t ≡ right → target_from n (times_in levels s) t (cond right kept (v ∷ kept)) (p.opened + 1) (child_of right v) ≡ answer_on levels s t from
  answer-next right h = sym (rw h at (target-step n (times_in levels s) t kept v x g.place.stands.one l e p.opened)) ∙ m.answer

  kept_next : (right : Bool) → ltb x t ≡ right → kept_from n (times_in levels s) t (cond right kept (v ∷ kept)) (child_of right v) ≡ kept_on levels s t from
  kept_next right h = sym (rw h at (kept_step n (times_in levels s) t kept v x g.place.stands.one l e)) ∙ m.kept

  pub comes-right : x < t → Comes levels s t from (record { kept = p.kept; count = c; v = child_of true v; above = x; opened = p.opened + 1 })
  comes-right h = record {
    goes = record {
      size = g.size;
      entry = g.entry;
      place = place-side g.place l e true c (omega arith);
      few = rw (stretch-child n true v g.place.stands.one) (omega (arith, g.few, stands-place g.place.stands l));
    };
    answer = answer-next true (lt-ltb x t h);
    kept = kept_next true (lt-ltb x t h);
  }

  pub comes-left : t ≤ x → Comes levels s t from
      (record { kept = set p.kept c (record { v = v; time = x }); count = c + 1; v = child_of false v; above = x; opened = p.opened + 1 })
  comes-left h =
      let r : Remembered = record { v = v; time = x } in
      let later = set p.kept c r in
      let room : c < length p.kept = rw g.size (count_under g f l) in
      let more = entries-added p.kept c r room in
      let last : Entry levels s (entries later c) c (get_or later c empty) =
      rw (entries-set p.kept c c r (le_refl c), get_or-set_same p.kept c r empty room) (record { above = p.above; place = g.place; among = l; time = e }) in
      record {
        goes = record {
          size = length-set p.kept c r ∙ g.size;
          entry = λ i h. elim (dec_lt i c) [
            | yes y ↦ rw (entries-set p.kept c i r (omega arith), get_or-set_other p.kept c i r empty (λ q. omega (arith, q))) (g.entry i y)
            | no y ↦ let q : c ≡ i = omega arith in subst (λ (i : ℕ). Entry levels s (entries later i) i (get_or later i empty)) q last
          ];
          place = rw more (place-side g.place l e false (c + 1) (le_refl (c + 1)));
          few = rw (stretch-child n false v g.place.stands.one) (omega (arith, g.few));
        };
        answer = rw more (answer-next false (le-ltb x t h));
        kept = rw more (kept_next false (le-ltb x t h));
      }
