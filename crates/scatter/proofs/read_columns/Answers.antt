-- `read_columns` reads one column after the other. Before the first, nothing has to stand in the output but its length.
use mathlib.Core.Path.{sym, ◌∙◌}
use native.Mathlib.Nat.{zero-mul}
use Rattle.scatter.proofs.BlockLaws.{length-scattered}
use Rattle.scatter.proofs.PartLaws.{part_none}
use Rattle.scatter.proofs.read_columns.Goals as goal

pub loop-column-init : goal.loop-column-init
loop-column-init c =
    let a = c.args in
    part_none (c.requires.1 ∙ sym (length-scattered a.rows a.columns a.input.now)) (zero-mul a.rows)
