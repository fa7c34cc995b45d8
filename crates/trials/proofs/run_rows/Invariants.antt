-- Invariant: what the rows left come to from here is what all come to.
use Rattle.trials.specs.Running.{tried}
use Rattle.trials.proofs.RunLaws.{RowsRun}
use Rattle.trials.proofs.run_rows.Given as goal

abbrev pub invariant-loop-flips : goal.invariant-loop-flips
invariant-loop-flips l =
    RowsRun l.settings.crc l.settings.check l.settings.limit l.count (tried l.initial.state l.initial.packet l.initial.output l.initial.rows) (tried l.state l.packet l.output l.rows) l.flips
