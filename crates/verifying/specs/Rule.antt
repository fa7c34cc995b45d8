-- A rule between the entries of a table of first positions, which the verification tests: RuleLaws has that exactly the right
-- table obeys it.
use Rattle.std.specs.Prelude.{ℕ, ◌+◌, ◌-◌, ◌*◌, ◌/◌, ◌<◌, ◌≤◌, ◌≡◌, List, length, get_or}
use Rattle.std.specs.Int.Bits.{bit_xor}

-- one position later, and absent if absent
abbrev pub later : ℕ → ℕ
later p = p + (1 - p / 65535)

-- the entries at even places, whose step is their half
abbrev pub EvenRuled : List ℕ → Type 0
EvenRuled l = (k : ℕ) → k < length l / 2 → get_or l (k * 2) 0 ≡ later (get_or l k 0)

-- the entries at odd places above 1, whose step is their half plus that of the generator
abbrev pub OddRuled : ℕ → List ℕ → Type 0
OddRuled half l = (k : ℕ) → k < length l / 2 → 1 ≤ k → get_or l (k * 2 + 1) 0 ≡ later (get_or l (bit_xor k half) 0)
