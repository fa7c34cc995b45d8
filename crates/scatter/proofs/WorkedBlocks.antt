-- Blocks worked by hand: two rows of three bytes, and three of two.
use mathlib.Core.Path.{◌≡◌, refl}
use mathlib.Core.List.{[], ◌∷◌}
use Rattle.scatter.specs.Blocks.{pieces, crossings, scattered, gathered}
use Rattle.scatter.specs.Losses.{places, came_from}

pub two_rows : scattered 2 3 (1 ∷ 2 ∷ 3 ∷ 4 ∷ 5 ∷ 6 ∷ []) ≡ 1 ∷ 4 ∷ 2 ∷ 5 ∷ 3 ∷ 6 ∷ []
unfolding scattered pieces crossings
two_rows = refl

pub three_rows : scattered 3 2 (1 ∷ 2 ∷ 3 ∷ 4 ∷ 5 ∷ 6 ∷ []) ≡ 1 ∷ 3 ∷ 5 ∷ 2 ∷ 4 ∷ 6 ∷ []
unfolding scattered pieces crossings
three_rows = refl

pub two_rows_back : gathered 2 3 (1 ∷ 4 ∷ 2 ∷ 5 ∷ 3 ∷ 6 ∷ []) ≡ 1 ∷ 2 ∷ 3 ∷ 4 ∷ 5 ∷ 6 ∷ []
unfolding gathered pieces crossings
two_rows_back = refl

pub three_rows_back : gathered 3 2 (1 ∷ 3 ∷ 5 ∷ 2 ∷ 4 ∷ 6 ∷ []) ≡ 1 ∷ 2 ∷ 3 ∷ 4 ∷ 5 ∷ 6 ∷ []
unfolding gathered pieces crossings
three_rows_back = refl

-- stored byte 1 was input byte 3
pub two_rows_place : came_from 2 3 1 ≡ 3
unfolding came_from places scattered pieces crossings
two_rows_place = refl
