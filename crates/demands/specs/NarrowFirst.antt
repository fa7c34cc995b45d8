-- The order of patterns in words, beside the definition that decides it (patterns `specs/Order`).
use Rattle.std.specs.Prelude.{ℕ, ◌<◌, ◌≡◌, List, ◌∷◌, ◌++◌, length}
use Rattle.patterns.specs.Order.{span}

-- p has fewer positions than q; or as many, and a smaller span; or as many and the same span, and where they first differ, behind positions
-- that both have, the lower one
pub data Precedes (p q : List ℕ) : Type 0 where
  fewer : length p < length q → Precedes p q
  narrower : length p ≡ length q → span p < span q → Precedes p q
  lower_at : length p ≡ length q → span p ≡ span q → (both : List ℕ) (a b : ℕ) (xs ys : List ℕ) → p ≡ both ++ a ∷ xs → q ≡ both ++ b ∷ ys → a < b → Precedes p q
