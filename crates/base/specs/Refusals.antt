-- The number of each condition of refusal (docs/RULES.md, section 7).
use Rattle.std.specs.Prelude.{ℕ}
use Rattle.base.specs.declared.Refusal.{Refusal}
use Rattle.base.specs.declared.Refusal.TheVariants.{Generator, Length, Limit, Syndrome, TableLength, TableEntry, Mark, Output, Range, Field, Values, BlockShape, BlockLength, Trials}

abbrev pub number : Refusal → ℕ
number Generator = 1
number Length = 2
number Limit = 3
number Syndrome = 4
number TableLength = 5
number TableEntry = 6
number Mark = 7
number Output = 8
number Range = 9
number Field = 10
number Values = 11
number BlockShape = 12
number BlockLength = 13
number Trials = 14
