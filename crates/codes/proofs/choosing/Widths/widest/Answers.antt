use Rattle.std.proofs.Common.{◌≡◌, nat_eq, arith, rules, tests}
use Rattle.std.specs.List.{position}
use Rattle.std.proofs.lemmas.Iterator.{YieldsList-from_slice}
use Rattle.std.proofs.lemmas.Iterator.Search.{position_from_yields_List}
use Rattle.codes.proofs.Tallies.{first-width}
use Rattle.codes.proofs.choosing.Widths.widest.Goals as goal

pub returns : goal.returns
returns c =
    let found : c.position.result ≡ position (λ n. nat_eq n 0) c.args.self.now.over = position_from_yields_List (λ n. nat_eq n 0) _ _ c.position.result c.position.ensures.ran (YieldsList-from_slice _ c.iter.ensures.rest) (λ x b q k. search (rules, tests)) in
    rw (c.unwrap_or.ensures, found) (first-width c.args.self.now.over (omega arith))
