-- What writing a record tells.
use Rattle.std.specs.Prelude.{ℕ, ◌+◌, ◌≡◌, List, ◌++◌, length, take, drop}
use Rattle.records.specs.Records.{record_of}

-- `out` is `before` with the record of ps from the byte `at` on, and `next` is the place behind the record
pub record RecordPut (ps before : List ℕ) (at : ℕ) (out : List ℕ) (next : ℕ) : Type 0 where
  pub content : out ≡ take at before ++ record_of ps ++ drop (at + length (record_of ps)) before
  pub behind : next ≡ at + length (record_of ps)
