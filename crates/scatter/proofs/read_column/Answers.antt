-- `read_column` reads a column from its first row to its last. Each byte goes to a place in the output, and is the whole's there.
use mathlib.Core.Path.{refl, sym}
use mathlib.Core.List.{List}
use Prim.Native.Nat.{ℕ, ◌+◌, ◌*◌, ◌<◌}
use native.Mathlib.Nat.{mul_comm}
use native.Mathlib.Omega.{arith}
use lib.ListN.{length}
use Rattle.scatter.specs.Blocks.{scattered}
use Rattle.scatter.proofs.BlockLaws.{in_block, length-scattered, stored_byte}
use Rattle.scatter.proofs.PartLaws.{part_more}
use Rattle.scatter.proofs.read_column.Goals as goal

to_inside : {rows columns column row : ℕ} (s : List ℕ) → row < rows → column < columns → column * rows + row < length (scattered rows columns s)
to_inside {rows} {columns} s h k = omega (arith, in_block k h, mul_comm columns rows, length-scattered rows columns s)

pub bounds-output-column : goal.bounds-output-column
bounds-output-column c =
    omega (arith, to_inside c.args.input.now c.loop-row-test.true c.requires.1, c.loop-row.invariant.long)

pub loop-row-preserved : goal.loop-row-preserved
loop-row-preserved c =
    let a = c.args in
    part_more c.loop-row.invariant (to_inside a.input.now c.loop-row-test.true c.requires.1)
    (sym (stored_byte a.rows a.columns a.input.now c.loop-row.row a.column c.loop-row-test.true c.requires.1 refl (omega (arith, mul_comm a.columns c.loop-row.row))))
    (omega arith)
