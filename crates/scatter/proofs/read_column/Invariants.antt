-- `read_column` reads a column from its first row to its last. Invariant: the output begins with the whole's bytes up to the next place.
use Prim.Native.Nat.{◌+◌, ◌*◌}
use Rattle.scatter.specs.Blocks.{scattered}
use Rattle.scatter.specs.Steps.{Part}
use Rattle.scatter.proofs.read_column.Given as goal

abbrev pub invariant-loop-row : goal.invariant-loop-row
invariant-loop-row l =
    Part (scattered l.rows l.columns l.input) (l.column * l.rows + l.row) l.output
