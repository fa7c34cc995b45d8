-- A line of input: decimal numbers of one to nine digits with single blanks between them, a line feed and nothing after it.
use Rattle.std.specs.Prelude.{◌≡◌, List, [], ◌∷◌, ◌++◌, ℕ, zero, suc, ◌+◌, ◌-◌, ◌*◌, ◌≤◌, ◌<◌, length}
use Rattle.base.specs.Lists.{All}

-- a byte that is a decimal digit
abbrev pub Digit : ℕ → Type 0
Digit c = (48 ≤ c) × (c < 58)

-- the number that v becomes as these digits are written behind it
unfoldable pub value_from : ℕ → List ℕ → ℕ
value_from v [] = v
value_from v (c ∷ cs) = value_from (v * 10 + (c - 48)) cs

-- the number that a text of digits gives
abbrev pub value_of : List ℕ → ℕ
value_of ds = value_from 0 ds

-- one to nine decimal digits that give v
pub record Digits (v : ℕ) (ds : List ℕ) : Type 0 where
  pub digits : All Digit ds
  pub some : 1 ≤ length ds
  pub few : length ds ≤ 9
  pub value : value_of ds ≡ v

-- the byte behind a number that so many more follow: a line feed behind the last, a blank behind any other
abbrev pub closing : ℕ → ℕ
closing zero = 10
closing (suc more) = 32

-- the input is the texts of these numbers, each with its closing byte, and nothing after them
pub data IsLine : List ℕ → List ℕ → Type 0 where
  no_more : IsLine [] []
  one_more : {v : ℕ} {vs ds rest input : List ℕ} → Digits v ds → input ≡ ds ++ (closing (length vs) ∷ rest) → IsLine vs rest → IsLine (v ∷ vs) input
