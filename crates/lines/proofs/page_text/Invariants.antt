-- `page_text` writes a page's lines. Invariant: what is stored, with the text of the records left, is the whole text, and
-- there are four bytes of room for each byte left of the page.
use Rattle.std.proofs.Common.{◌+◌, ◌*◌, ◌≤◌, length}
use Rattle.lines.specs.Text.{text_of}
use Rattle.records.specs.Records.{patterns_in}
use Rattle.lines.proofs.WritingLaws.{Writing}
use Rattle.lines.proofs.page_text.Given as goal

abbrev pub invariant-loop-count : goal.invariant-loop-count
invariant-loop-count l =
    (l.to + 4 * length l.rest ≤ length l.initial.out) × Writing l.initial.out 0 (text_of (patterns_in l.page)) l.out l.to (text_of (patterns_in l.rest))

abbrev pub decreases-loop-count : goal.decreases-loop-count
decreases-loop-count l = length l.rest
