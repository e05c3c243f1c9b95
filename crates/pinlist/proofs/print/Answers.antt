-- Which text is printed goes by the length and then by check, as in `printed`.
use native.Mathlib.Omega.{arith}
use mathlib.Core.Path.{sym, ap, ◌∙◌}
use lib.ListN.{length}
use Rattle.strip.specs.Refusals.{outcome}
use Rattle.pinlist.proofs.Listings.{prints-too-long}
use Rattle.pinlist.proofs.print.Goals as goal

pub write_next-requires : goal.write_next-requires
write_next-requires c = let s = c.args.s.now in rw (prints-too-long s (omega arith))

pub returns-then-s-gt65536 : goal.returns-then-s-gt65536
returns-then-s-gt65536 c = let s = c.args.s.now in c.write_next.ensures ∙ ap length (sym (prints-too-long s (omega arith)))

pub print_list-requires : goal.print_list-requires
print_list-requires c = (omega arith, sym c.check.ensures ∙ ap outcome c.in-Ok.is)

pub print_refusal-requires : goal.print_refusal-requires
print_refusal-requires c = rw (c.number.ensures, c.carried.ensures) (omega arith, sym c.check.ensures ∙ ap outcome c.in-Err.is)
