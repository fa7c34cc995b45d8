-- `write_next` goes by what is due: a line of its own, or a turn of the list.
use Rattle.std.proofs.Common.{sym}
use Rattle.lines.proofs.WritingLaws.{stored_text}
use Rattle.lister.proofs.write_next.Goals as goal

pub returns-in-Bad : goal.returns-in-Bad
returns-in-Bad c =
    let h = c.bad_line.ensures in
    rw c.in-Bad.is (sym (stored_text h.text h.front), h.front)

pub returns-in-Refused : goal.returns-in-Refused
returns-in-Refused c =
    let h = c.refused_line.ensures in
    rw c.in-Refused.is (sym (stored_text h.text h.front), h.front)
