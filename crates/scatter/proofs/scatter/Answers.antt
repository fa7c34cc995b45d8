-- `scatter` reads the rows by columns where conditions 12 and 13 do not apply.
use lib.ListN.{length}
use Rattle.base.proofs.JudgeLaws.{none_applies}
use Rattle.scatter.specs.Calls.{block_conditions}
use Rattle.scatter.proofs.ConditionLaws.{fit_shape, fit_lengths}
use Rattle.scatter.proofs.scatter.Goals as goal

pub read_columns-requires : goal.read_columns-requires
read_columns-requires c =
    let a = c.args in
    let clear = none_applies (block_conditions a.rows a.columns (length a.input.now) (length a.output.now)) c.judge_block.ensures c.in_ok-judge_block.was in
    let shape = fit_shape a.rows a.columns (clear 12) in
    let lengths = fit_lengths a.rows a.columns (length a.input.now) (length a.output.now) (clear 13) in
    (record { rows = shape.0; columns = shape.1; full = lengths.0 }, lengths.1)
