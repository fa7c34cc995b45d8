-- Which numbers are accepted as generators, those with names, and what making one answers.
use Rattle.std.specs.Prelude.{ℕ, ◌%◌, Bool, ◌||◌, [], ◌∷◌, eqb, ltb}
use Rattle.base.specs.Outcome.{Outcome, refused, accepted, when, judge}
use Rattle.poly.specs.Polynomial.{degree}
use Rattle.poly.specs.declared.Generator.{Generator}

-- the degrees that are accepted
abbrev pub least_degree : ℕ
least_degree = 3

abbrev pub greatest_degree : ℕ
greatest_degree = 16

-- condition 1: even, or of a degree that is not accepted
unfoldable pub unfit : ℕ → Bool
unfit g = eqb (g % 2) 0 || ltb (degree g) least_degree || ltb greatest_degree (degree g)

-- the generator of a number: the number, and the degree
abbrev pub generator_of : ℕ → Generator
generator_of g = record { coefficients = g; degree = degree g }

-- x^5 + x^4 + x^2 + 1, and x^16 + x^12 + x^5 + 1
abbrev pub five : Generator
five = generator_of 53

abbrev pub ccitt : Generator
ccitt = generator_of 0x11021

-- the answer of the constructor: refused by its number, or the generator made
abbrev pub constructed : ℕ → Outcome Generator
constructed g = judge (when 1 (unfit g) ∷ []) refused (accepted (generator_of g))
