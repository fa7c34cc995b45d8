-- What the functions that rearrange a block ask of and tell each other.
use Rattle.std.specs.Prelude.{ℕ, ◌*◌, ◌≤◌, ◌≡◌, List, length, take}
use Rattle.scatter.specs.Calls.{most_side}

-- bytes that fill a block of r rows and c columns, which are not too many
pub record Block (r c : ℕ) (s : List ℕ) : Type 0 where
  pub rows : r ≤ most_side
  pub columns : c ≤ most_side
  pub full : length s ≡ r * c

-- an output as long as the whole, that begins with so many bytes of it
pub record Part (whole : List ℕ) (done : ℕ) (output : List ℕ) : Type 0 where
  pub long : length output ≡ length whole
  pub same : take done output ≡ take done whole
