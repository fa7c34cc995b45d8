-- `refused_line` writes its word and, behind it, the number with a line feed.
use Rattle.std.proofs.Common.{sym, [], ◌∷◌, ◌++◌}
use Rattle.lines.specs.Decimal.{decimal}
use Rattle.lines.specs.Text.{refused_line}
use Rattle.lines.proofs.WritingLaws.{stored_joined}
use Rattle.lines.proofs.refused_line.Goals as goal

pub returns-clause-text : goal.returns-clause-text
unfolding refused_line
returns-clause-text c =
    rw (sym c.from.ensures, sym c.from-2.ensures)
    (stored_joined (114 ∷ 101 ∷ 102 ∷ 117 ∷ 115 ∷ 101 ∷ 100 ∷ 32 ∷ []) (decimal c.from-2.result ++ (10 ∷ [])) c.text_at-to.ensures c.number_line_at.ensures.text)
