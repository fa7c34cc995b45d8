-- The order of patterns: those of fewer positions stand first; of as many, those of the smaller span; and of as many and one span they go
-- by their smallest positions, the lower first, then by the next smallest, and so on.
use Rattle.std.specs.Prelude.{ℕ, ◌-◌, Bool, true, false, ◌||◌, ◌&&◌, List, [], ◌∷◌, eqb, ltb, length, get_or}

-- first by a number of each, the smaller first, and where these are equal by another order
unfoldable pub keyed : {A : Type 0} → (A → ℕ) → (A → A → Bool) → A → A → Bool
keyed key rest p q = ltb (key p) (key q) || (eqb (key p) (key q) && rest p q)

-- the largest position minus the smallest, of positions that ascend: the last minus the first, and 0 for one or none
unfoldable pub span : List ℕ → ℕ
span ps = get_or ps (length ps - 1) 0 - get_or ps 0 0

-- at the first place where they differ, p has the lower position, or none
unfoldable pub lower : List ℕ → List ℕ → Bool
lower [] [] = false
lower [] (b ∷ q) = true
lower (a ∷ p) [] = false
lower (a ∷ p) (b ∷ q) = ltb a b || (eqb a b && lower p q)

unfoldable pub before : List ℕ → List ℕ → Bool
before = keyed length (keyed span lower)
