-- The times stand at the front up to where listing ends, and what is answered follows from them and from that end.
use mathlib.Core.Path.{◌≡◌, sym, ap, ◌∙◌}
use Rattle.std.specs.Prelude.{Ok}
use Rattle.codes.proofs.Promises.{list-laws}
use Rattle.tree.specs.Times.{number_of, node_of}
use Rattle.tree.specs.Outcomes.{gives, refuses, test, verdict}
use Rattle.tree.specs.Listing.{listed, stop_all}
use Rattle.tree.proofs.Promises.{listing-finds, decoded-chosen}
use Rattle.strip.specs.Calls.{list_in, check_in}
use Rattle.strip.specs.Refusals.{refusal}
use Rattle.strip.specs.Read.{falls_test, image_in}
use Rattle.strip.proofs.Checks.{Front, listed-front, check-listed, check-stopped}
use Rattle.strip.proofs.Exits.{after-refusal, after-given, walk-told}
use Rattle.strip.proofs.open.Open.check_list.Goals as goal
use Rattle.strip.proofs.open.Open.check_list.Goals.{After-test_order, After-test_order-in-Err, else-listing-via-then-listing+else-are_chosen, else-listing-via-else-listing}

-- where all positions have a time
all-listed : (c : After-test_order) → gives tt ≡ stop_all c.args.self.now.tree.levels c.args.self.now.tree.bytes.now
all-listed c = sym (ap listed c.in-Ok.is) ∙ c.list-listing.ensures.lists.outcome

whole : (c : After-test_order) → c.list-listing.new.times ≡ list_in c.args.self.now.tree.bytes.now c.args.self.now.tree.levels
unfolding list_in
whole c =
    let levels = c.args.self.now.tree.levels in
    c.list-listing.ensures.times_after ∙ list-laws.filled_whole levels.pins (list_in c.args.self.now.tree.bytes.now levels) (listing-finds.count _ levels.pins (sym (all-listed c)))

pub returns-in_err-test_order-in-Ok : goal.returns-in_err-test_order-in-Ok
unfolding list_in
returns-in_err-test_order-in-Ok c =
    let t = (goal.at.returns-in_err-test_order-in-Ok c).After-test_order in
    let order = c.test_order.ensures ∙ ap falls_test (whole t) in
    record {
      result_value = after-refusal _ _ _ _ order c.in_err-test_order-in-Ok.was c.from_residual.ensures.1 ∙ check-listed c.args.self.now.tree.bytes.now c.args.self.now.tree.levels c.args.self.now.is_open.0 c.args.self.now.is_open.1 (all-listed t);
      times_after = c.list-listing.ensures.times_after;
    }

-- then the levels decide; where one is not decoded, they are not what pack writes
image-decides : (c : After-test_order) (x : Unit {0}) → c.test_order.result ≡ Ok x
    → image_in c.args.self.now.tree.bytes.now c.args.self.now.tree.levels ≡ check_in c.args.self.now.tree.bytes.now c.args.self.now.tree.levels
image-decides c x was =
    after-given _ _ _ (c.test_order.ensures ∙ ap falls_test (whole c)) was
    ∙ check-listed c.args.self.now.tree.bytes.now c.args.self.now.tree.levels c.args.self.now.is_open.0 c.args.self.now.is_open.1 (all-listed c)

pub returns-then-are_chosen : goal.returns-then-are_chosen
unfolding list_in verdict test
returns-then-are_chosen c = record {
  result_value = rw (sym c.are_chosen.ensures ∙ c.if-are_chosen.true) at (image-decides (goal.at.returns-then-are_chosen c).After-test_order _ c.in_ok-test_order-in-Ok.was);
  times_after = c.list-listing.ensures.times_after;
}

pub returns-else-listing : goal.returns-else-listing
unfolding list_in verdict test
returns-else-listing c =
    let image = image-decides (goal.at.returns-else-listing c).After-test_order _ c.in_ok-test_order-in-Ok.was in
    let d = c.list-listing.ensures.decodes in record {
      result_value = elim c.else-listing.branch [
        | else-listing-via-then-listing+else-are_chosen w ↦ rw (sym w.are_chosen.ensures ∙ w.if-are_chosen.false) at image
        | else-listing-via-else-listing w ↦ rw (decoded-chosen.others _ _ _ (rw w.if-listing.false at d)) at image
      ];
      times_after = c.list-listing.ensures.times_after;
    }

-- where one has none
stopped : (c : After-test_order-in-Err) → refuses (number_of c.in-Err.stop.refusal) (node_of c.in-Err.stop.refusal) ≡ stop_all c.args.self.now.tree.levels c.args.self.now.tree.bytes.now
stopped c = sym (ap listed c.in-Err.is) ∙ c.list-listing.ensures.lists.outcome

front : (c : After-test_order-in-Err) → Front c.args.self.now.tree.bytes.now c.args.self.now.tree.levels c.in-Err.stop.position c.list-listing.new.times
unfolding list_in
front c = listed-front c.args.self.now.tree.bytes.now c.args.self.now.tree.levels (rw c.in-Err.is at c.list-listing.ensures.lists) c.list-listing.ensures.times_after

pub returns-in_err-test_order-in-Err : goal.returns-in_err-test_order-in-Err
unfolding list_in
returns-in_err-test_order-in-Err c =
    let t = (goal.at.returns-in_err-test_order-in-Err c).After-test_order-in-Err in
    let order = rw (front t).is at c.test_order-in-Err.ensures in
    record {
      result_value = after-refusal _ _ _ _ order c.in_err-test_order-in-Err.was c.from_residual-in_err-test_order-in-Err.ensures.1 ∙ check-stopped c.args.self.now.tree.bytes.now c.args.self.now.tree.levels (stopped t);
      times_after = c.list-listing.ensures.times_after;
    }

pub returns-in_ok-test_order-in-Err : goal.returns-in_ok-test_order-in-Err
unfolding list_in
returns-in_ok-test_order-in-Err c =
    let t = (goal.at.returns-in_ok-test_order-in-Err c).After-test_order-in-Err in
    let order = rw (front t).is at c.test_order-in-Err.ensures in
    record {
      result_value = ap refusal c.from.ensures ∙ walk-told c.in-Err.stop.refusal ∙ after-given _ _ _ order c.in_ok-test_order-in-Err.was ∙ check-stopped c.args.self.now.tree.bytes.now c.args.self.now.tree.levels (stopped t);
      times_after = c.list-listing.ensures.times_after;
    }
