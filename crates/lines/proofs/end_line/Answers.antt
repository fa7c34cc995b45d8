-- `end_line` writes its word and, behind it, the number with a line feed.
use Rattle.std.proofs.Common.{[], ◌∷◌, ◌++◌}
use Rattle.lines.specs.Decimal.{decimal}
use Rattle.lines.specs.Text.{end_line}
use Rattle.lines.proofs.WritingLaws.{stored_joined}
use Rattle.lines.proofs.end_line.Goals as goal

pub returns-clause-text : goal.returns-clause-text
unfolding end_line
returns-clause-text c =
    stored_joined (101 ∷ 110 ∷ 100 ∷ 32 ∷ []) (decimal c.args.count ++ (10 ∷ [])) c.text_at-to.ensures c.number_line_at.ensures.text
