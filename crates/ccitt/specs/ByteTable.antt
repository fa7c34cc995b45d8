-- The table of the generator ccitt for division a byte at a time.
use Rattle.std.specs.Prelude.{ℕ, ◌*◌, ◌^◌, List}
use Rattle.poly.specs.Polynomial.{rem}
use Rattle.poly.specs.Generators.{ccitt}
use Rattle.tables.specs.Tables.{values}

-- the entry of a byte: the byte times x^16, reduced
unfoldable pub byte_entry : ℕ → ℕ
byte_entry b = rem ccitt.degree ccitt.coefficients (b * 2 ^ 16)

-- the entries of all bytes
unfoldable pub byte_table : List ℕ
byte_table = values byte_entry 256 0
