-- `read_columns` reads one column after the other. Invariant: those that were read stand in the output.
use Prim.Native.Nat.{◌*◌}
use Rattle.scatter.specs.Blocks.{scattered}
use Rattle.scatter.specs.Steps.{Part}
use Rattle.scatter.proofs.read_columns.Given as goal

abbrev pub invariant-loop-column : goal.invariant-loop-column
invariant-loop-column l =
    Part (scattered l.rows l.columns l.input) (l.column * l.rows) l.output
