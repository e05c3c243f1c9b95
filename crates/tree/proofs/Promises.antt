-- The promises of specs/Promises.
use mathlib.Core.Path.{◌≡◌, sym, ap, subst, ◌∙◌}
use Prim.Native.Nat.{ℕ, suc, ◌-◌, ◌^◌, ◌≤◌, min}
use native.Mathlib.Nat.{le_refl}
use native.Mathlib.Omega.{arith}
use lib.Dec.{eqb, ltb}
use lib.Pow.{pow_pos}
use Rattle.codes.specs.Decode.{all}
use Rattle.tree.specs.Shape.{rank}
use Rattle.tree.specs.Levels.{level_of, fetched_at}
use Rattle.tree.specs.declared.walking.Found.{Found}
use Rattle.tree.specs.Times.{times_in}
use Rattle.tree.specs.Walks.{toward, access_answer}
use Rattle.tree.specs.Promises.{HeightLeast, Shape, Contents, HeldReads, DifferentFew, AccessOpens, StoredLevels, ListingFinds, ChosenStored, StoredChosen, DecodedChosen, ZeroMarks, OutcomeLaws, SweepRises, NineChunked}
use Rattle.tree.proofs.Heights.{digits, height-above, height_bound, height-le}
use Rattle.tree.proofs.NodeFetches.{level-is}
use Rattle.tree.proofs.Stretches.{stretch-root, stretch-left, stretch-right, node-iff}
use Rattle.tree.proofs.Inorder.{tree}
use Rattle.tree.proofs.Outcomes.{gives_same, gives-refuses, verdict-append, verdict-gives}
use Rattle.tree.proofs.Preorder.{nodes-rise}
use Rattle.tree.proofs.Ranks.{rank_lt, rank-found}
use Rattle.tree.proofs.Walks.{walk-length, toward-on, met-gives}
use Rattle.tree.proofs.Paths.{toward-rank, rank-once, from_root-length, access-answer, search-path, search-answer}
use Rattle.tree.proofs.Sweeps.{sweep-positions, sweep-answer, sweep-once, sweep-sums, different-pins, different-heights}
use Rattle.tree.proofs.ChunkedNodes.{only_chunked}
use Rattle.tree.proofs.Contents.{times-back}
use Rattle.tree.proofs.Listings.{times-all, times-known}
use Rattle.tree.proofs.TimeBounds.{access-small, times-within}
use Rattle.tree.proofs.ListedValues.{listed-chosen}
use Rattle.tree.proofs.LevelMarks.{marks-none}
use Rattle.tree.proofs.AllValues.{all_of}
use Rattle.tree.proofs.LevelsChosen.{undecoded-other, codes-chosen}
use Rattle.tree.proofs.LevelValues.{length-stored, stored-within, level_within, level_count, level-half, level-above, fetched-stored}

pub height-least : HeightLeast
height-least = record {
  enough = λ n. omega (arith, height_bound n);
  least = λ n h k. height-le n h (omega (arith, pow_pos h));
}

level-from : (n v d : ℕ) → 1 ≤ v → v ≤ n → level_of v ≡ d → (2 ^ d ≤ v) × (v ≤ min n (2 ^ suc d - 1))
level-from n v d h k e =
    let t = digits v h in
    let top : d ≡ t.top = omega (arith, t.is) in
    rw top (t.least, omega (arith, t.below))

pub shape : (n : ℕ) → Shape n
shape n = record {
  nodes = node-iff n;
  root = stretch-root n;
  left = stretch-left n;
  right = stretch-right n;
  ranks = rank_lt n;
  each = λ i h. rank-found (tree n) i (omega arith) h;
  once = rank-once n;
  level = λ v h. rw (from_root-length v) (omega (arith, height-above v 0 h));
  levels = λ v d h k. (level-from n v d h k, λ b. level-is d v b.0 (omega (arith, pow_pos d)));
  paths = λ stop past v h. walk-length n stop past v h;
}

pub held_reads : HeldReads
held_reads levels s xs held =
    let time = times_in levels s in
    let o = held.in_order in
    let node = times-back xs o held.times (fetched_at levels s) (fetched-stored levels s xs held.stores) in
    let listing = times-known xs time node in
    subst (λ (n : ℕ). Contents n time xs) (sym held.stores.pins_are) (record {
      node = node;
      access = access-answer xs time node;
      times = listing.0;
      stop = listing.1;
      path_nodes = search-path xs time node;
      search = search-answer xs time node o;
      positions = sweep-positions xs time node o;
      sweep = sweep-answer xs time node o;
      once = sweep-once xs time node o;
      sums = sweep-sums xs time node o;
    })

pub different-few : DifferentFew
different-few = record { pins = different-pins; heights = different-heights }

pub access-opens : AccessOpens
unfolding toward access_answer
access-opens = record {
  nodes = toward-rank;
  some = λ n i h. rw (toward-on n i 1 (le_refl 1) h) (omega arith);
  few = λ n i. walk-length n (λ v. eqb (rank n v) i) (λ v. ltb (rank n v) i) 1 (le_refl 1);
  count = λ n time i f e. ap (λ (g : Found). g.nodes) (sym (met-gives time (toward n i) _ f e));
  small = access-small;
}

pub stored-levels : StoredLevels
stored-levels = record { count = length-stored; within = stored-within; level_within = level_within; level_count = level_count; half = level-half; above = level-above }

pub listing-finds : ListingFinds
listing-finds = record { within = λ levels s k. times-within levels s k 0; count = λ answer k. times-all answer k 0 }

pub chosen-stored : ChosenStored
chosen-stored = listed-chosen

pub stored-chosen : StoredChosen
stored-chosen = codes-chosen

pub decoded-chosen : DecodedChosen
decoded-chosen = record {
  values = λ levels s values d. all_of levels.pins _ (sym d.told) ∙ ap all (sym d.left);
  others = λ levels s values d. undecoded-other levels s (sym d.told);
}

pub zero-marks : ZeroMarks
zero-marks = marks-none

pub outcome-laws : OutcomeLaws
outcome-laws = record { same = gives_same; never = gives-refuses; append = verdict-append; given = verdict-gives }

pub sweep-rises : SweepRises
sweep-rises = nodes-rise

pub nine-chunked : NineChunked
nine-chunked = only_chunked
