-- The texts that 01 prints for strip A and for a refusal, computed.
use Rattle.std.specs.Prelude.{◌≡◌, refl, [], ◌∷◌, ◌++◌}
use Rattle.codes.specs.Bits.{bits, number, sum, fixed, numbers, padded}
use Rattle.codes.specs.Codes.{kind_of, rest, layers, kind_bits}
use Rattle.codes.specs.Choice.{width_in, widest, best_chunked, chosen}
use Rattle.codes.specs.Fetch.{fixed_at, fetch_layers, chunked_at, fetched}
use Rattle.tree.specs.Shape.{height, root_place, child_of, stretch_in, stretch, rank}
use Rattle.tree.specs.Lists.{ordered}
use Rattle.tree.specs.Stored.{time_of, time_above, stored, stored_from}
use Rattle.tree.specs.Levels.{fetched_at}
use Rattle.tree.specs.Outcomes.{test, verdict}
use Rattle.tree.specs.Times.{node_time_in, node_time}
use Rattle.tree.specs.Walks.{walk_in, walk, met, toward, last_of, access_answer}
use Rattle.tree.specs.Listing.{times_from}
use Rattle.strip.specs.Layout.{end_after, filled, laid_out}
use Rattle.strip.specs.Image.{code_for, part_for, joined, strip_of}
use Rattle.strip.specs.Opening.{entries_tests, opening}
use Rattle.strip.specs.Calls.{positions_tests, list_in, check_of, plain_list}
use Rattle.strip.specs.Marked.{a, b}
use Rattle.pinlist.specs.Texts.{ascii, places_in, decimal, numeral, header, line, lines_from, refusal_line, printed}

-- strip A, and as the example of 13 strip B with a byte more
pub record Marked : Type 0 where
  pub listed : printed a ≡ ascii "pins 5\n0 100\n1 250\n2 250\n3 400\n4 1000\n"
  pub refused : printed (b ++ (0 ∷ [])) ≡ ascii "refused 13 0\n"

pub marked : Marked
unfolding bits number sum fixed numbers padded kind_of rest layers kind_bits width_in widest best_chunked chosen fixed_at fetch_layers chunked_at fetched height
    root_place child_of stretch_in stretch rank ordered time_of time_above stored stored_from fetched_at node_time_in node_time walk_in walk met toward last_of
    access_answer test verdict end_after filled laid_out code_for part_for joined strip_of entries_tests opening times_from positions_tests list_in check_of plain_list places_in
    decimal numeral header line lines_from refusal_line printed
marked = record { listed = refl; refused = refl }
