-- `judge_input` reads the line, and asks by its numbers.
use Rattle.std.proofs.Common.{◌≡◌, sym, ◌∙◌, true}
use Rattle.parsing.specs.Parsing.{numbers_in, whole_line}
use Rattle.parsing.proofs.InputLaws.{read_line}
use Rattle.lister.proofs.PrintedLaws.{sets_four}
use Rattle.lister.proofs.judge_input.Goals as goal

pub returns-clause-text : goal.returns-clause-text
returns-clause-text c =
    let input = c.args.input.now in
    let whole : whole_line 4 input ≡ true = sym c.parse.ensures.answer ∙ c.if-not-parse.false in
    let numbers = c.parse.ensures.numbers ∙ sets_four (numbers_in 4 input) (read_line 4 input whole).0 in
    rw (whole, ← numbers) c.ask.ensures.text
