-- `page_text` writes a line in each turn.
use Rattle.std.proofs.Common.{arith}
use Rattle.lines.proofs.RecordLaws.{text_past, text_cut, text_step}
use Rattle.lines.proofs.WritingLaws.{writing_part, writing_stored}
use Rattle.lines.proofs.page_text.Goals as goal

pub returns-in_default-split_at_checked-clause-text : goal.returns-in_default-split_at_checked-clause-text
returns-in_default-split_at_checked-clause-text c =
    writing_stored (rw (text_cut c.in-Some.ensures.cases.0 c.from.ensures c.in_default-split_at_checked.ensures.cases) at c.loop-count.invariant.1)

pub loop-count-preserved : goal.loop-count-preserved
loop-count-preserved c =
    let s = c.in-Some-split_at_checked.ensures.cases in (
      omega (arith, s, c.in-Some.ensures.cases, c.line_at-to.ensures.short),
      writing_part _ _ (rw (text_step c.in-Some.ensures.cases.0 c.from.ensures s) at c.loop-count.invariant.1)
          _ _ c.line_at-to.ensures.text.bytes c.line_at-to.ensures.text.place,
    )

pub returns-clause-text : goal.returns-clause-text
returns-clause-text c = writing_stored (rw (text_past c.loop-count.rest.now c.in_default.ensures.cases) at c.loop-count.invariant.1)
