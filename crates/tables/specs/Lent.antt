-- What the inner functions ask of a slice.
use Rattle.std.specs.Prelude.{ℕ, ◌^◌, ◌≡◌, List, length}
use Rattle.poly.specs.Fit.{Fit}
use Rattle.poly.specs.declared.Generator.{Generator}

-- an accepted generator, and a slice with room for one of its tables
pub record Lent (g : Generator) (l : List ℕ) : Type 0 where
  pub fit : Fit g
  pub full : length l ≡ 2 ^ g.degree
