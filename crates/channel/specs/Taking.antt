-- What the inner functions of a draw tell each other.
use Rattle.std.specs.Prelude.{ℕ, ◌+◌, ◌<◌, ◌≤◌, List, length, get_or}

-- the position p stands between the first r of some and the others
pub record Between (p r : ℕ) (ts : List ℕ) : Type 0 where
  pub within : r ≤ length ts
  pub lower : (j : ℕ) → j < r → get_or ts j 0 < p
  pub higher : (j : ℕ) → r ≤ j → j < length ts → p < get_or ts j 0

-- r of the positions taken lie below the one that is at a place among all others, which is then that place and r together
abbrev pub Gap : ℕ → ℕ → List ℕ → Type 0
Gap place r ts = Between (place + r) r ts
