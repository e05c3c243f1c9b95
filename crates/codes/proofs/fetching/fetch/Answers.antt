-- What the code byte says decides, and only a chunked fetch has to do with the marks.
use Rattle.std.proofs.Common.{sym, refl, arith}
use Rattle.codes.specs.Fetch.{fetched}
use Rattle.codes.proofs.CodeByte.{kind-told}
use Rattle.codes.proofs.fetching.fetch.Goals as goal

pub fetch_fixed-requires : goal.fetch_fixed-requires
fetch_fixed-requires c =
    let e = sym c.in-Fixed.ensures in
    let k = kind-told _ _ e in
    let inside = rw e at c.requires.2 in
    omega arith

pub fetch_chunked-requires : goal.fetch_chunked-requires
fetch_chunked-requires c =
    let k = kind-told _ _ (sym c.in-Chunked.ensures) in
    record { le_b = omega arith; marks = c.requires.1 }

pub returns-in-Fixed : goal.returns-in-Fixed
unfolding fetched
returns-in-Fixed c = rw (← c.in-Fixed.ensures) (record { result_value = c.fetch_fixed.ensures; marks = c.requires.1 })

pub returns-in-Chunked : goal.returns-in-Chunked
unfolding fetched
returns-in-Chunked c = rw (← c.in-Chunked.ensures) (record { result_value = c.fetch_chunked.ensures.result_value; marks = c.fetch_chunked.ensures.marks_2 })

pub returns-in-Refused : goal.returns-in-Refused
unfolding fetched
returns-in-Refused c = rw (← c.in-Refused.ensures) (record { result_value = refl; marks = c.requires.1 })
