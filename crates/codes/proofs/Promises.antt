-- The promises of specs/Promises.
use Rattle.std.proofs.Common.{arith}
use Rattle.codes.specs.declared.kinds.Kind.TheVariants.{Chunked}
use Rattle.codes.specs.Codes.{kind_bits, level_bits}
use Rattle.codes.specs.Promises.{RoundTrip, Lengths, BestChoice, CodeKnown, LeastWidth, DecodeFetches, DecodeBack, DecodedPart, ChosenParts, ExactParts, ShortFetches, ZeroMarks, ListLaws}
use Rattle.codes.proofs.Best.{chosen-holds, chosen-size, chosen-first, chosen-at-most}
use Rattle.codes.proofs.Bits.{length-fixed, length-padded}
use Rattle.codes.proofs.Buffers.{buffer-laws}
use Rattle.codes.proofs.ChosenParts.{chosen-told}
use Rattle.codes.proofs.ChunkCounts.{chunked-length}
use Rattle.codes.proofs.CodeByte.{kind-told}
use Rattle.codes.proofs.DecodedParts.{part-spelled}
use Rattle.codes.proofs.Decodes.{decoded-fetched}
use Rattle.codes.proofs.ExactParts.{exact-told}
use Rattle.codes.proofs.Fetches.{short-fetched}
use Rattle.codes.proofs.Marks.{marks-none}
use Rattle.codes.proofs.Parts.{part-back, part-decoded}
use Rattle.codes.proofs.Widths.{width-holds, width-least}

pub round_trip : RoundTrip
round_trip = part-back

pub lengths : Lengths
unfolding kind_bits
lengths = record {
  rounded = λ code vs. length-padded (level_bits code vs);
  fixed_size = λ code w vs e. rw e (length-fixed w vs);
  chunked_size = λ code b vs e h. let k = kind-told code (Chunked b) e in rw e (chunked-length b vs k.0 h);
}

pub best-choice : BestChoice
best-choice vs h = record {
  holds = chosen-holds vs h;
  its_size = chosen-size vs;
  fewest = λ code k. (chosen-first vs code k).0;
  on_tie = λ code k e. (chosen-first vs code k).1 (rw e (omega arith));
  at_most = chosen-at-most vs h;
}

pub code-known : CodeKnown
code-known = kind-told

pub least-width : LeastWidth
least-width = record { holds = width-holds; least = width-least }

pub decode-fetches : DecodeFetches
decode-fetches = decoded-fetched

pub decode-back : DecodeBack
decode-back = part-decoded

pub decoded-part : DecodedPart
decoded-part = part-spelled

pub chosen-parts : ChosenParts
chosen-parts = chosen-told

pub exact-parts : ExactParts
exact-parts = exact-told

pub short-fetches : ShortFetches
short-fetches = short-fetched

pub zero-marks : ZeroMarks
zero-marks = marks-none

pub list-laws : ListLaws
list-laws = buffer-laws
