-- A turn of `run_row` is one trial more, and behind the last all trials are run.
use Rattle.trials.proofs.RunLaws.{row_run_more, row_run_all}
use Rattle.trials.proofs.run_row.Goals as goal

pub loop-preserved : goal.loop-preserved
loop-preserved c =
    row_run_more _ _ _ _ _ c.loop.invariant c.loop-test.true (cc (c.run_trial-column.ensures c.loop.rows))

pub returns-clause-trials : goal.returns-clause-trials
returns-clause-trials c = (row_run_all _ _ _ _ _ c.loop.invariant c.loop-test.false).0
