-- Invariant: what the trials left come to from here is what all come to.
use lib.ListN.{length}
use Rattle.trials.specs.Running.{tried}
use Rattle.trials.proofs.RunLaws.{RowRun}
use Rattle.trials.proofs.run_row.Given as goal

abbrev pub invariant-loop : goal.invariant-loop
invariant-loop l =
    RowRun l.settings.crc l.settings.check l.settings.limit (length l.initial.flipped) l.count (tried l.initial.state l.initial.packet l.initial.output l.initial.rows) (tried l.state l.packet l.output l.rows) l.counter
