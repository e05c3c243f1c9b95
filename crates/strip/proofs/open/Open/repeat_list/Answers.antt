-- The times stand at the front up to where listing ends, and what is answered follows from them and from that end.
use mathlib.Core.Path.{◌≡◌, sym, ap, ◌∙◌}
use Rattle.codes.proofs.Promises.{list-laws}
use Rattle.tree.specs.Listing.{listed}
use Rattle.tree.proofs.Promises.{listing-finds}
use Rattle.strip.specs.Calls.{list_in}
use Rattle.strip.proofs.Checks.{listed-front, repeat-listed}
use Rattle.strip.proofs.Exits.{walk-told}
use Rattle.strip.proofs.open.Open.repeat_list.Goals as goal

pub returns-in-Ok : goal.returns-in-Ok
unfolding list_in
returns-in-Ok c =
    let s = c.args.self.now.tree.bytes.now in
    let levels = c.args.self.now.tree.levels in
    let list = c.list in
    let outcome = sym (ap listed c.in-Ok.is) ∙ list.ensures.lists.outcome in
    let whole : list.new.times ≡ list_in s levels =
    list.ensures.times_after ∙ list-laws.filled_whole levels.pins (list_in s levels) (listing-finds.count _ levels.pins (sym outcome)) in
    record { result_value = c.gap_or.ensures ∙ rw whole (repeat-listed s levels c.args.r _ outcome); times_after = list.ensures.times_after }

pub returns-in-Err : goal.returns-in-Err
unfolding list_in
returns-in-Err c =
    let s = c.args.self.now.tree.bytes.now in
    let levels = c.args.self.now.tree.levels in
    let list = c.list in
    let front = listed-front s levels (rw c.in-Err.is at list.ensures.lists) list.ensures.times_after in
    let outcome = sym (ap listed c.in-Err.is) ∙ list.ensures.lists.outcome in
    record {
      result_value = c.gap_or-in-Err.ensures ∙ rw (front.is, c.from.ensures, walk-told c.in-Err.stop.refusal) (repeat-listed s levels c.args.r _ outcome);
      times_after = list.ensures.times_after;
    }
