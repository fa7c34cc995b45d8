-- What laws and inner functions ask of a generator.
use Rattle.std.specs.Prelude.{ℕ, suc, ◌%◌, ◌^◌, ◌≤◌, ◌<◌, ◌≡◌}
use Rattle.poly.specs.Generators.{least_degree, greatest_degree}
use Rattle.poly.specs.declared.Generator.{Generator}

-- a number of degree n, and odd
pub record Divisor (n g : ℕ) : Type 0 where
  pub low : 2 ^ n ≤ g
  pub high : g < 2 ^ suc n
  pub odd : g % 2 ≡ 1

-- an accepted generator
pub record Fit (g : Generator) : Type 0 where
  pub divisor : Divisor g.degree g.coefficients
  pub least : least_degree ≤ g.degree
  pub most : g.degree ≤ greatest_degree
