-- Numbers as decimal text.
use Rattle.std.specs.Prelude.{ℕ, zero, suc, ◌+◌, ◌/◌, ◌%◌, List, [], ◌∷◌, ◌++◌, ltb}
use Rattle.base.specs.Outcome.{pick}

-- the decimal digits of v, where so many divisions by ten are enough
unfoldable pub digits_of : ℕ → ℕ → List ℕ
digits_of zero v = (48 + v) ∷ []
digits_of (suc more) v = pick (ltb v 10) ((48 + v) ∷ []) (digits_of more (v / 10) ++ ((48 + v % 10) ∷ []))

-- v in decimal, without leading zeros; DecimalLaws has that these digits give v, and that a leading zero is the whole text
unfoldable pub decimal : ℕ → List ℕ
decimal v = digits_of v v
