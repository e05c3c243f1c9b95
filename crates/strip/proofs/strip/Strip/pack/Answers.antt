-- 1, 2 and 3 are tested in turn; a list is ordered just where its first lower position is its length. `Tune::pack` has 4 and the image.
use native.Mathlib.Omega.{arith}
use mathlib.Core.Path.{refl}
use lib.ListN.{length}
use borrow.Author.Tests.{lt-ltb, le-ltb, eq-eqb, ne_eqb}
use Rattle.tree.specs.Outcomes.{verdict, test}
use Rattle.strip.specs.Layout.{max_pins}
use Rattle.strip.specs.Calls.{pack_of, pack_output}
use Rattle.strip.proofs.Gaps.{not-ordered, is-ordered}
use Rattle.strip.proofs.strip.Strip.pack.Goals as goal

pub returns-then-n-eq0 : goal.returns-then-n-eq0
unfolding pack_of pack_output verdict test
returns-then-n-eq0 c =
    let xs = c.args.times.now in
    rw (eq-eqb (length xs) 0 (omega arith))
    (record { result_value = refl; out_after = refl })

pub returns-then-n-gt-MAX_PINS : goal.returns-then-n-gt-MAX_PINS
unfolding pack_of pack_output verdict test
returns-then-n-gt-MAX_PINS c =
    let xs = c.args.times.now in
    rw (ne_eqb (length xs) 0 (λ e. omega arith), lt-ltb max_pins (length xs) (omega arith))
    (record { result_value = refl; out_after = refl })

pub returns-then-lower-n : goal.returns-then-lower-n
unfolding pack_of pack_output verdict test
returns-then-lower-n c =
    let xs = c.args.times.now in
    let falls = not-ordered xs (omega (arith, c.first_lower-lower.ensures)) in
    rw (ne_eqb (length xs) 0 (λ e. omega arith), le-ltb max_pins (length xs) (omega arith), falls, c.first_lower-lower.ensures)
    (record { result_value = refl; out_after = refl })

pub invariant_of-pack : goal.invariant_of-pack
invariant_of-pack c =
    let xs = c.args.times.now in
    record { in_order = rw (is-ordered xs (omega (arith, c.first_lower-lower.ensures))) tt; few = omega arith }

pub returns : goal.returns
unfolding pack_of pack_output verdict test
returns c =
    let xs = c.args.times.now in
    let in_order = is-ordered xs (omega (arith, c.first_lower-lower.ensures)) in
    rw (ne_eqb (length xs) 0 (λ e. omega arith), le-ltb max_pins (length xs) (omega arith), in_order)
    c.pack.ensures
