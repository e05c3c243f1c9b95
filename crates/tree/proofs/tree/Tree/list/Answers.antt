-- Where the levels are merged the nodes stand at their ranks; else the nodes are opened one by one, in entries that are 0 again.
use Rattle.std.proofs.Common.{rules, ◌≡◌, ℕ, ◌+◌, length, sym, ap, ◌∙◌, arith}
use Rattle.codes.specs.Decode.{all}
use Rattle.codes.proofs.Promises.{list-laws}
use Rattle.tree.specs.Times.{times_in}
use Rattle.tree.specs.Listing.{times_all}
use Rattle.tree.specs.DecodedLevels.{decoded_levels}
use Rattle.tree.proofs.NodeFetches.{pins-bound}
use Rattle.tree.proofs.AllValues.{all_of, values-count, known_values}
use Rattle.tree.proofs.Steps.{stands-root, access-start}
use Rattle.tree.proofs.Listings.{ranks-known, filled-front}
use Rattle.tree.proofs.tree.Tree.list.Goals as goal

pub merge_levels-requires : goal.merge_levels-requires
merge_levels-requires c = omega (arith, c.decode_levels.auto.values, pins-bound c.args.self.now.levels c.args.self.now.bytes.now c.args.self.now.fits)

pub returns-then-is_some : goal.returns-then-is_some
returns-then-is_some c =
    let levels = c.args.self.now.levels in
    let s = c.args.self.now.bytes.now in
    let pins = levels.pins in
    let d = c.decode_levels in
    let done = sym d.ensures.told ∙ sym c.is_some-decoded.ensures ∙ c.if-decoded.true in
    let own : decoded_levels levels s ≡ all d.new.values = all_of pins _ done ∙ ap all (sym d.ensures.left) in
    let count = values-count levels s d.new.values own in
    let ranks = rw count at (c.merge_levels.ensures (search rules) levels s (known_values levels s d.new.values own)) in
    let n : length c.merge_levels.new.times ≡ pins = c.merge_levels.auto.times ∙ sym c.requires.0 in
    let z = ranks-known levels s c.merge_levels.new.times (sym n) ranks in
    record {
      lists = record { outcome = sym z.1; ends = ap (λ (xs : ℕ). 0 + xs) (sym (ap length z.0 ∙ n)) };
      times_after = rw z.0 (sym (list-laws.filled_whole pins c.merge_levels.new.times n));
      decodes = rw c.is_some-decoded.ensures d.ensures;
    }

pub list_under-requires-clause-stands : goal.list_under-requires-clause-stands
list_under-requires-clause-stands c = stands-root c.args.self.now.levels c.args.self.now.bytes.now

pub list_under-requires-clause-reaches : goal.list_under-requires-clause-reaches
list_under-requires-clause-reaches c = λ i lo hi. sym (access-start c.args.self.now.levels.pins (times_in c.args.self.now.levels c.args.self.now.bytes.now) i)

pub returns-clause-times_after : goal.returns-clause-times_after
returns-clause-times_after c =
    let levels = c.args.self.now.levels in
    let n : length c.else-decoded.times ≡ levels.pins = c.else-decoded.auto.times ∙ sym c.requires.0 in
    filled-front levels.pins (times_all levels c.args.self.now.bytes.now) (c.fill.ensures.after (λ y e. e) ∙ rw n) c.list_under.ensures.times_after
