-- The stream of a made packet's bytes: a 32-bit state, which begins as a seed and yields a byte at each step.
use Rattle.std.specs.Prelude.{ℕ, zero, suc, ◌+◌, ◌*◌, ◌/◌, ◌%◌, ◌^◌, List, [], ◌∷◌}

-- the state after this one
unfoldable pub next_state : ℕ → ℕ
next_state x = (1664525 * x + 1013904223) % 2 ^ 32

-- the byte that a state yields: its top eight bits
unfoldable pub byte_of : ℕ → ℕ
byte_of x = x / 2 ^ 24

-- the bytes yielded by so many steps from a state on: each step goes to the next state, and that yields the byte
unfoldable pub yielded : ℕ → ℕ → List ℕ
yielded zero x = []
yielded (suc k) x = byte_of (next_state x) ∷ yielded k (next_state x)

-- the state after so many steps
unfoldable pub state_after : ℕ → ℕ → ℕ
state_after zero x = x
state_after (suc k) x = state_after k (next_state x)
