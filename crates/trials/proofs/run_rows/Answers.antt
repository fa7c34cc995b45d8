-- A turn of `run_rows` is one row more, and behind the last all rows are run.
use mathlib.Core.Path.{◌≡◌}
use native.Mathlib.Omega.{arith}
use lib.ListN.{length, take}
use lib.Seq.{length-take-le}
use Rattle.trials.proofs.RunLaws.{rows_run_more, rows_run_all}
use Rattle.trials.proofs.run_rows.Goals as goal

pub loop-flips-preserved : goal.loop-flips-preserved
loop-flips-preserved c =
    let i = c.loop-flips in
    let lent : length (take i.flips i.pos) ≡ i.flips = length-take-le i.flips i.pos (omega arith) in
    let row = c.run_row-next.ensures in
    rows_run_more _ _ _ _ i.invariant (omega arith) (rw lent at row.trials, rw lent at row.within)

pub returns : goal.returns
returns c = rows_run_all _ _ _ _ c.loop-flips.invariant c.loop-flips-test.false
