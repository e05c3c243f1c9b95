-- Unpack goes on where check gives the pin count: the list then fills the lent array.
use mathlib.Core.Path.{◌≡◌, sym, ap, ◌∙◌}
use Prim.Native.Nat.{ℕ}
use lib.ListN.{length}
use Rattle.tree.specs.Outcomes.{Outcome}
use Rattle.strip.specs.Calls.{written, list_in}
use Rattle.strip.specs.Refusals.{outcome}
use Rattle.strip.proofs.Checks.{unpack-listed, accepted-whole}
use Rattle.strip.proofs.open.Open.unpack_list.Goals as goal

pub returns : goal.returns
returns c =
    let s = c.args.self.now.tree.bytes.now in
    let levels = c.args.self.now.tree.levels in
    let list = c.check_list in
    let e = sym (ap outcome c.in_ok-check_list.was) ∙ list.ensures.result_value in
    let whole : list.new.times ≡ list_in s levels = list.ensures.times_after ∙ accepted-whole s levels _ e in
    let room = unpack-listed s levels (length c.args.out.now) _ e in
    record {
      result_value = rw whole at c.put_list.ensures.result_value ∙ room;
      out_after = rw whole at c.put_list.ensures.out_after ∙ ap (λ (o : Outcome ℕ). written o (list_in s levels) c.args.out.now) room;
    }
