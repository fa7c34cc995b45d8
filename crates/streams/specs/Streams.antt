-- What was moved before a read or a write failed, where the bytes of the reader or the writer are known.
use Rattle.std.specs.Prelude.{◌≡◌, ℕ, ◌≤◌, List, ◌++◌, length, take, Option}
use Rattle.std.specs.Io.KnownBytes.{Appends, Consumes}

-- what was read stands at the buffer's start
abbrev pub ReadSome : Option (List ℕ) → Option (List ℕ) → List ℕ → Type 0
ReadSome before after buffer = (n : ℕ) × (n ≤ length buffer) × Consumes before after (take n buffer)

-- what was written is a beginning of the bytes
abbrev pub WroteSome : Option (List ℕ) → Option (List ℕ) → List ℕ → Type 0
WroteSome before after bytes = (first : List ℕ) × (rest : List ℕ) × (bytes ≡ first ++ rest) × Appends before after first
