-- What the nodes of lists store, computed. List A is the one marked in 01; the calls on its strip are in the table of `strip`.
use Rattle.std.specs.Prelude.{Bool, true, ◌&&◌, ◌≡◌, refl, List, [], ◌∷◌, ℕ}
use Rattle.codes.specs.Lists.{same}
use Rattle.codes.specs.Choice.{width_in}
use Rattle.tree.specs.Shape.{height, root_place, stretch_in, stretch, rank}
use Rattle.tree.specs.Stored.{time_of, time_above, stored, stored_from, stored_values}

-- a list with what its nodes store, in node order
pub record Tree : Type 0 where
  pub times : List ℕ
  pub values : List ℕ

abbrev pub marked : List Tree
marked =
    record { times = 100 ∷ 250 ∷ 250 ∷ 400 ∷ 1000 ∷ []; values = 400 ∷ 150 ∷ 600 ∷ 150 ∷ 0 ∷ [] }
    ∷ record { times = 5 ∷ 5 ∷ 5 ∷ []; values = 5 ∷ 0 ∷ 0 ∷ [] }
    ∷ []

abbrev all : List Tree → Bool
all [] = true
all (t ∷ ts) = same (stored_values t.times) t.values && all ts

pub marked-pass : all marked ≡ true
unfolding width_in height root_place stretch_in stretch rank time_of time_above stored stored_from
marked-pass = refl
