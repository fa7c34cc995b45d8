-- `page_turn` pages on in the list: the text of the page is due first, and what follows its next mark is due after it.
use Rattle.std.proofs.Common.{sym, arith}
use Rattle.pages.specs.Sequences.{Lending}
use Rattle.paging.specs.Results.{page_result}
use Rattle.lines.proofs.WritingLaws.{stored_text}
use Rattle.lister.proofs.TurnLaws.{turn_accepted, turn_fits, turn_going, turn_fewer, turn_text}
use Rattle.lister.proofs.page_turn.Goals as goal

pub overflow_add-total : goal.overflow_add-total
overflow_add-total c =
    let a = c.args in
    record { fits = turn_fits c.requires.1 (record { steps = a.tables.steps.now; firsts = a.tables.firsts.now; output = a.page.now }) c.requires.2 c.requires.3.0 _ (sym c.in-Ok.ensures.answer) _ (omega arith) }

pub returns-in_default : goal.returns-in_default
returns-in_default c =
    let a = c.args in
    absurd (turn_accepted c.requires.1 (record { steps = a.tables.steps.now; firsts = a.tables.firsts.now; output = a.page.now }) c.requires.2 c.requires.3.0 _ (sym c.in_default.ensures.answer))

pub returns : goal.returns
returns c =
    let a = c.args in
    let l : Lending = record { steps = a.tables.steps.now; firsts = a.tables.firsts.now; output = a.page.now } in
    let p = page_result c.in-Ok.p in
    let accepts = sym c.in-Ok.ensures.answer in
    let h = c.page_text-length.ensures in
    let text = rw c.page.ensures.bytes at (stored_text h.text h.front) in (
      rw text (turn_text c.requires.1 l c.requires.2 c.requires.3.0 p accepts _ (omega arith)),
      h.front,
      turn_fewer c.requires.1 l c.requires.2 c.requires.3.0 p accepts c.requires.0,
      turn_going c.requires.1 l c.requires.2 c.requires.3.0 p accepts _ (omega arith),
      c.requires.2,
    )
