-- What a target drops of the remembered nodes, where it goes on, and what a sweep answers by it.
use mathlib.Core.Path.{◌≡◌, refl, sym, ap, ◌∙◌}
use mathlib.Core.Bool.{Bool, true, false, cond}
use mathlib.Core.List.{List, [], ◌∷◌, ◌++◌}
use Prim.Native.Nat.{ℕ, suc, ◌+◌, ◌≤◌, ◌<◌}
use native.Mathlib.Nat.{le_refl}
use native.Mathlib.Omega.{arith}
use lib.Dec.{ltb}
use lib.ListN.{length, get_or, length-append}
use borrow.Author.Tests.{lt-ltb, le-ltb}
use Rattle.tree.specs.declared.nodes.Levels.{Levels}
use Rattle.tree.specs.declared.targets.Progress.{Progress}
use Rattle.tree.specs.Shape.{child_of, stretch}
use Rattle.tree.specs.declared.walking.Found.{Found}
use Rattle.tree.specs.Outcomes.{Outcome, refuses, known}
use Rattle.tree.specs.Times.{times_in}
use Rattle.tree.specs.Walks.{met, found, never, is_below, position, target_from}
use Rattle.tree.specs.Sweeps.{dropped, Leg, leg, legs_from, opened, positions}
use Rattle.tree.specs.declared.targets.Remembered.{Remembered}
use Rattle.tree.specs.Remembering.{empty, entries, Entry, GoesOn, ResumesIn, answer_on, Comes}
use Rattle.tree.proofs.Stretches.{stretch-child}
use Rattle.tree.proofs.Steps.{stands-place, stands-rank, stands-end, kept-end, target-end}
use Rattle.tree.proofs.Walks.{walk-out, met-append, met-other, met-gives}
use Rattle.tree.proofs.Remembering.{place-side}

-- ---- nodes dropped

-- the last of the remembered nodes is dropped
abbrev pub one_less : Progress → ℕ → Remembered → Progress
one_less p c last = record { kept = p.kept; count = c; v = child_of true last.v; above = last.time; opened = p.opened }

-- with no more than c of them left it goes on from the right child of the last that is dropped, or where it is
abbrev pub left : Progress → ℕ → Progress
left p c = cond (ltb c p.count) (one_less p c (get_or p.kept c empty)) p

-- how target t goes on from p is how it goes on from q, which drops some
pub record DropsTo (levels : Levels) (s : List ℕ) (t : ℕ) (p q : Progress) : Type 0 where
  pub goes : GoesOn levels s q
  pub on : dropped (is_below (times_in levels s) t) p.v (entries p.kept p.count) ≡ dropped (is_below (times_in levels s) t) q.v (entries q.kept q.count)
  pub same : q.opened ≡ p.opened

module _ {levels : Levels} {s : List ℕ} {t : ℕ} {p q : Progress} (d : DropsTo levels s t p q) where
  -- no more is dropped where nothing is left
  pub drops-all : q.count ≡ 0 → ResumesIn levels s t p q
  unfolding entries dropped
  drops-all z = record { goes = d.goes; drops = rw z (rw z at d.on); same = d.same }

  module _ (c : ℕ) (last : Remembered) (n : q.count ≡ suc c) (is : get_or q.kept c empty ≡ last) where
    entry-last : Entry levels s (entries q.kept c) c last
    entry-last = rw is at (d.goes.entry c (omega arith))

    past-last : is_below (times_in levels s) t last.v ≡ ltb last.time t
    past-last = ap (λ (z : Outcome ℕ). ltb (known z) t) entry-last.time

    entries-last : entries q.kept q.count ≡ last.v ∷ entries q.kept c
    unfolding entries
    entries-last = rw (n, is)

    -- nor where the last one stays
    pub drops-no-more : t ≤ last.time → ResumesIn levels s t p q
    unfolding dropped
    drops-no-more h = record { goes = d.goes; drops = rw entries-last (rw (entries-last, past-last, le-ltb last.time t h) at d.on); same = d.same }

    -- and else that one
    pub drops-last : last.time < t → DropsTo levels s t p (one_less q c last)
    unfolding dropped
    drops-last h =
        let e = entry-last in
        let w = e.place.stands in
        let g = d.goes in
        record {
          goes = record {
            size = g.size;
            entry = λ i k. g.entry i (omega arith);
            place = place-side e.place e.among e.time true c (omega arith);
            few = rw (stretch-child levels.pins true last.v w.one)
                (omega (arith, g.few, rw entries-last at g.place.ends, stands-rank w, stands-place w e.among));
          };
          on = rw (entries-last, past-last, lt-ltb last.time t h) at d.on;
          same = d.same;
        }

-- ---- what is left of them

module _ (p : Progress) (c : ℕ) (last : Remembered) where
  left-kept : (b : Bool) → (cond b (one_less p c last) p).kept ≡ p.kept
  left-kept true = refl
  left-kept false = refl

  left-opened : (b : Bool) → (cond b (one_less p c last) p).opened ≡ p.opened
  left-opened true = refl
  left-opened false = refl

left-count : (p : Progress) (c : ℕ) → c ≤ p.count → (left p c).count ≡ c
left-count p c h = grind (arith, h)

module _ {levels : Levels} {s : List ℕ} {t : ℕ} {p : Progress} (c : ℕ) (h : c ≤ p.count) (d : DropsTo levels s t p (left p c)) where
  pub left-none : c ≡ 0 → ResumesIn levels s t p (left p c)
  left-none z = drops-all d (left-count p c h ∙ z)

  module _ (k : ℕ) (e : c ≡ suc k) where
    pub left-stays : t ≤ (get_or p.kept k empty).time → ResumesIn levels s t p (left p c)
    left-stays = drops-no-more d k (get_or p.kept k empty) (left-count p c h ∙ e) (rw (left-kept p c (get_or p.kept c empty) (ltb c p.count)))

    pub left-less : (get_or p.kept k empty).time < t → DropsTo levels s t p (left p k)
    left-less less =
        let q = drops-last d k (get_or p.kept k empty) (left-count p c h ∙ e) (rw (left-kept p c (get_or p.kept c empty) (ltb c p.count))) less in
        let few : k < p.count = omega (arith, h, e) in
        rw (lt-ltb k p.count few) (rw (left-kept p c (get_or p.kept c empty) (ltb c p.count), left-opened p c (get_or p.kept c empty) (ltb c p.count)) at q)

-- ---- a target of a sweep

-- no number above n is a node
legs-missing : (n : ℕ) (time : ℕ → Outcome ℕ) (u v : ℕ) → n < u → n < v → (kept ts : List ℕ) → legs_from n time u kept ts ≡ legs_from n time v kept ts
unfolding legs_from dropped
legs-missing n time u v h i kept [] = refl
legs-missing n time u v h i kept (t ∷ ts) = ap (λ (l : Leg). l ∷ legs_from n time (suc n) l.kept ts) (by kept)
  where
    none : (kept : List ℕ) → leg n time t (record { from = u; kept = kept }) ≡ leg n time t (record { from = v; kept = kept })
    none kept = rw (walk-out n never (is_below time t) u h, walk-out n never (is_below time t) v i)

    by : (kept : List ℕ) → leg n time t (dropped (is_below time t) u kept) ≡ leg n time t (dropped (is_below time t) v kept)
    by [] = none []
    by (w ∷ ws) = some (is_below time t w)
      where
        some : (b : Bool) → leg n time t (cond b (dropped (is_below time t) (child_of true w) ws) (record { from = u; kept = w ∷ ws }))
            ≡ leg n time t (cond b (dropped (is_below time t) (child_of true w) ws) (record { from = v; kept = w ∷ ws }))
        some true = refl
        some false = none (w ∷ ws)

module _ (levels : Levels) (s : List ℕ) (p : Progress) (ts : List ℕ) where
  -- the targets that are left of a sweep that has come so far
  abbrev pub legs_on : List Leg
  legs_on = legs_from levels.pins (times_in levels s) p.v (entries p.kept p.count) ts

  -- what it answers, and their positions
  abbrev pub sweep_on : Outcome ℕ
  sweep_on = met (times_in levels s) (opened legs_on) (p.opened + length (opened legs_on))

  abbrev pub positions_on : List ℕ
  positions_on = positions levels.pins (times_in levels s) legs_on

module _ {levels : Levels} {s : List ℕ} {t : ℕ} {p q : Progress} (r : ResumesIn levels s t p q) (ts : List ℕ) where
  abbrev n : ℕ
  n = levels.pins

  abbrev read : ℕ → Outcome ℕ
  read = times_in levels s

  abbrev here : Leg
  here = leg n read t (record { from = q.v; kept = entries q.kept q.count })

  abbrev later : List Leg
  later = legs_from n read (suc n) here.kept ts

  first-leg : legs_on levels s p (t ∷ ts) ≡ here ∷ later
  unfolding legs_from
  first-leg = rw r.drops

  pub sweep-stopped : {k c : ℕ} → answer_on levels s t q ≡ refuses k c
      → (sweep_on levels s p (t ∷ ts) ≡ refuses k c) × (positions_on levels s p (t ∷ ts) ≡ [])
  unfolding opened positions target_from
  sweep-stopped e =
      let all = opened (here ∷ later) in
      let answer = found (position n here.kept) (q.opened + length here.nodes) in
      rw first-leg (
        met-append read here.nodes (opened later) (p.opened + length all) answer ∙ rw e,
        rw (met-other read here.nodes (position n here.kept) answer, e),
      )

  -- it comes to a missing child, whose place is its position
  pub sweep-next : {u : Progress} → Comes levels s t q u → n < u.v
      → (sweep_on levels s p (t ∷ ts) ≡ sweep_on levels s u ts)
      × (positions_on levels s p (t ∷ ts) ≡ (stretch n u.v).start ∷ positions_on levels s u ts)
  unfolding opened positions target_from
  sweep-next {u} m h =
      let kept = entries u.kept u.count in
      let place = m.goes.place in
      let answer = found (position n here.kept) (q.opened + length here.nodes) in
      let e = sym m.answer ∙ target-end n read t kept u.opened u.v h in
      let count : q.opened + length here.nodes ≡ u.opened = ap (λ (f : Found). f.nodes) (met-gives read here.nodes answer _ e) in
      let same : here.kept ≡ kept = sym m.kept ∙ kept-end n read t kept u.v h in
      let rest : later ≡ legs_on levels s u ts = rw same (legs-missing n read (suc n) u.v (le_refl (suc n)) h kept ts) in
      let all : p.opened + length (here.nodes ++ opened later) ≡ u.opened + length (opened later) = omega (arith, length-append here.nodes (opened later), r.same) in
      rw first-leg (
        met-append read here.nodes (opened later) _ answer ∙ rw (e, all, rest),
        rw (met-other read here.nodes (position n here.kept) answer, e, rest)
            (ap (λ (i : ℕ). i ∷ positions_on levels s u ts) (ap (position n) same ∙ sym place.ends ∙ stands-end place.stands h)),
      )
