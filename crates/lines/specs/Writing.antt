-- Texts stored in an output: for inner functions alone.
use Rattle.std.specs.Prelude.{◌≡◌, ℕ, ◌+◌, ◌≤◌, List, length, take}
use Rattle.std.proofs.lemmas.List.Edits.{sets}

-- a text was stored in `out` from `to` on, which made it `after`; `next` is the place behind the text
pub record Stored (out : List ℕ) (to : ℕ) (text : List ℕ) (next : ℕ) (after : List ℕ) : Type 0 where
  pub place : next ≡ to + length text
  pub bytes : after ≡ sets out to text

-- n counts bytes at the start of xs; the second part follows from the first, and spares a caller that takes them a proof
abbrev pub Front : ℕ → List ℕ → Type 0
Front n xs = (n ≤ length xs) × (n ≡ length (take n xs))

-- the room that a line with one number asks: the longest word is "refused ", and 64 bits make at most 20 digits
abbrev pub line_room : ℕ
line_room = 29
