-- A pattern as the list of its positions, and a mark over such lists.
use Rattle.std.specs.Prelude.{ℕ, List, [], ◌∷◌}
use Rattle.patterns.specs.declared.Pattern.{Pattern}
use Rattle.patterns.specs.declared.Pattern.TheVariants.{Empty, One, Two, Three, Four}
use Rattle.patterns.specs.declared.Mark.{Mark}
use Rattle.patterns.specs.declared.Mark.TheVariants.{Start, Ended, After}

-- the most positions that a pattern holds
abbrev pub most_positions : ℕ
most_positions = 4

-- the positions of a pattern, as it holds them
abbrev pub positions : Pattern → List ℕ
positions Empty = []
positions (One a) = a ∷ []
positions (Two a b) = a ∷ b ∷ []
positions (Three a b c) = a ∷ b ∷ c ∷ []
positions (Four a b c d) = a ∷ b ∷ c ∷ d ∷ []

-- where a mark stands in the list: before it, past its end, or after a pattern
pub data Point : Type 0 where
  start : Point
  ended : Point
  after : List ℕ → Point

abbrev pub point_of : Mark → Point
point_of Start = start
point_of Ended = ended
point_of (After p) = after (positions p)
