-- `number_line_at` writes the number and the line feed behind it.
use Rattle.std.proofs.Common.{[], ◌∷◌}
use Rattle.lines.specs.Decimal.{decimal}
use Rattle.lines.proofs.WritingLaws.{stored_joined}
use Rattle.lines.proofs.number_line_at.Goals as goal

pub returns-clause-text : goal.returns-clause-text
returns-clause-text c = stored_joined (decimal c.args.v) (10 ∷ []) c.decimal_at-end.ensures c.text_at.ensures
