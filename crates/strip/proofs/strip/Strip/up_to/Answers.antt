-- At the greatest time the count is n; below it t + 1 is a time that a search takes.
use native.Mathlib.Omega.{arith}
use Prim.Native.Nat.{◌-◌, ◌^◌}
use borrow.Author.Tests.{eq-eqb, ne_eqb}
use native.Mathlib.Numerals.{add-one}
use Rattle.strip.specs.Calls.{up_to_of}
use Rattle.strip.proofs.Openings.{opening-is, opening-refused}
use Rattle.strip.proofs.strip.Strip.up_to.Goals as goal

pub returns-in_err-strip : goal.returns-in_err-strip
unfolding up_to_of
returns-in_err-strip c = opening-refused _ _ _ c.opening_of.ensures.result_value _ _ c.in_err-strip.was c.from_residual.ensures.1

pub returns-then-t-eq-GREATEST : goal.returns-then-t-eq-GREATEST
unfolding up_to_of
returns-then-t-eq-GREATEST c =
    rw (opening-is c.args.s.now _ c.opening_of.ensures.result_value c.in_ok-strip.was, eq-eqb c.args.t (2 ^ 32 - 1) (omega arith))

pub returns : goal.returns
unfolding up_to_of
returns c =
    rw (opening-is c.args.s.now _ c.opening_of.ensures.result_value c.in_ok-strip.was, ne_eqb c.args.t (2 ^ 32 - 1) (λ e. omega arith), ← (add-one c.args.t))
    (rw c.in_ok-strip.ensures.bytes_value at c.search.ensures)
