-- What the program does to the bytes that its output holds, where they are known.
use Rattle.std.specs.Prelude.{List, ℕ, Option}
use Rattle.std.specs.Io.KnownBytes.{Appends}
use Rattle.streams.specs.Streams.{WroteSome}
use Rattle.lister.specs.Printed.{Prints}

-- they grow by what is to be printed for an input
abbrev pub Listed : List ℕ → Option (List ℕ) → Option (List ℕ) → Type 0
Listed input before after = (text : List ℕ) × Prints input text × Appends before after text

-- and by a beginning of it where an error ends the program
abbrev pub ListedSome : List ℕ → Option (List ℕ) → Option (List ℕ) → Type 0
ListedSome input before after = (text : List ℕ) × Prints input text × WroteSome before after text
