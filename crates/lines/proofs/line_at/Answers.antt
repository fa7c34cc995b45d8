-- `line_at` writes the count, the positions and the line feed, each behind the other.
use Rattle.std.proofs.Common.{◌≡◌, [], ◌∷◌, ◌++◌, ◌/◌, length, arith}
use Rattle.lines.specs.Decimal.{decimal}
use Rattle.lines.specs.Text.{spaced}
use Rattle.records.specs.Records.{positions_in}
use Rattle.lines.proofs.RecordLaws.{line_text}
use Rattle.lines.proofs.WritingLaws.{stored_joined, stored_as}
use Rattle.lines.proofs.line_at.Goals as goal

pub returns-clause-text : goal.returns-clause-text
returns-clause-text c =
    let a = c.args in
    let e : length a.positions.now / 2 ≡ a.count = omega arith in
    let s = spaced (positions_in a.count a.positions.now) in
    rw (line_text a.count a.positions.now)
    (stored_joined (decimal a.count) (s ++ (10 ∷ [])) (stored_as c.decimal_at-middle.ensures c.from.ensures)
    (stored_joined s (10 ∷ []) (rw e at c.positions_at-end.ensures.text) c.text_at.ensures))
