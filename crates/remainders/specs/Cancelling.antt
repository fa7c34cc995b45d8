-- What the inner steps of a division keep.
use Rattle.std.specs.Prelude.{ℕ, ◌+◌, ◌^◌, ◌<◌, ◌≡◌}
use Rattle.poly.specs.Polynomial.{rem}

-- r leaves the remainder of v, and is below x^(n + j)
pub record Cancelled (n g v j r : ℕ) : Type 0 where
  pub same : rem n g r ≡ rem n g v
  pub below : r < 2 ^ (n + j)
