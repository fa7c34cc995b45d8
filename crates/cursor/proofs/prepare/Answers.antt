-- `prepare` fills in the powers and takes the period from the tables.
use Rattle.std.proofs.Common.{ap, ◌∙◌}
use lib.ListN.{length}
use Rattle.tables.proofs.TableLaws.{length-step_table}
use Rattle.cursor.proofs.prepare.Goals as goal

pub period_of-requires-clause-lent : goal.period_of-requires-clause-lent
period_of-requires-clause-lent c =
    let p = c.requires.0 in
    record { fit = p.fit; full = ap length p.right_steps ∙ length-step_table c.args.g.degree c.args.g.coefficients }
