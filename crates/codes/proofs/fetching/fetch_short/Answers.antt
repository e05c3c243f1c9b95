-- The tests are those of the definition, by bytes; the value is read where a fetch of a fixed code reads it.
use Rattle.std.proofs.Common.{ℕ, length, Some, ap, arith, le-ltb, lt-ltb}
use Rattle.codes.specs.Bits.{bits_of}
use Rattle.codes.specs.Fetch.{short_at}
use Rattle.codes.proofs.Bits.{length-fixed}
use Rattle.codes.proofs.fetching.fetch_short.Goals as goal

pub returns-then-w-gt25 : goal.returns-then-w-gt25
unfolding short_at
returns-then-w-gt25 c = rw (← c.in-Fixed.ensures, lt-ltb 25 c.in-Fixed.w (omega arith))

pub returns-then-part-lt4 : goal.returns-then-part-lt4
unfolding short_at
returns-then-part-lt4 c =
    let part = c.args.part.bytes.now in
    rw (← c.in-Fixed.ensures, le-ltb 25 c.in-Fixed.w (omega arith), lt-ltb (length (bits_of part)) 32 (rw (length-fixed 8 part) (omega arith)))

pub returns-else-part-lt4 : goal.returns-else-part-lt4
unfolding short_at
returns-else-part-lt4 c =
    let width : ℕ = c.in-Fixed.w in
    let part = c.args.part.bytes.now in rw (← c.in-Fixed.ensures, le-ltb 25 (width) (omega arith), le-ltb (length (bits_of part)) 32 (rw (length-fixed 8 part) (omega arith))) (ap Some c.read_short.ensures)

pub returns-in-Chunked : goal.returns-in-Chunked
unfolding short_at
returns-in-Chunked c = rw (← c.in-Chunked.ensures)

pub returns-in-Refused : goal.returns-in-Refused
unfolding short_at
returns-in-Refused c = rw (← c.in-Refused.ensures)
