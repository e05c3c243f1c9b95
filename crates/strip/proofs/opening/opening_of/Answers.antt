-- The levels' tests come after the header's (`opening-steps`), and a header that passes has all that `tree_of` asks.
use Rattle.std.proofs.Common.{sym, ◌∙◌}
use Rattle.strip.proofs.Openings.{opening-steps, opened-refused}
use Rattle.strip.proofs.Exits.{refusal-after, after-given}
use Rattle.strip.proofs.opening.opening_of.Goals as goal

pub returns-in_err-n-clause-result_value : goal.returns-in_err-n-clause-result_value
returns-in_err-n-clause-result_value c =
    opened-refused _ _ c.from_residual.ensures.1 ∙ refusal-after _ _ _ c.header_of.ensures.result_value c.in_err-n.was ∙ sym (opening-steps c.args.s.now)

pub tree_of-requires-clause-left : goal.tree_of-requires-clause-left
tree_of-requires-clause-left c = opening-steps c.args.s.now ∙ sym (after-given _ _ _ c.header_of.ensures.result_value c.in_ok-n.was)
