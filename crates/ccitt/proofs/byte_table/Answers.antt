-- `byte_table` gives the table: the checker computes the entries of all bytes and compares.
use mathlib.Core.Path.{refl}
use Rattle.poly.specs.Polynomial.{rem, down, down_in, reduce, degree, degree_in}
use Rattle.tables.specs.Tables.{values}
use Rattle.ccitt.specs.ByteTable.{byte_entry, byte_table}
use Rattle.ccitt.proofs.byte_table.Goals as goal

pub returns : goal.returns
unfolding byte_table values byte_entry rem down down_in reduce degree degree_in
returns c = refl
