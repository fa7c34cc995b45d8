-- `list_turn` closes the list at its end, and pages on from any other mark.
use Rattle.std.proofs.Common.{◌≡◌, refl, sym, ◌+◌, arith}
use Rattle.patterns.specs.Patterns.{point_of}
use Rattle.patterns.specs.declared.Mark.{Mark}
use Rattle.patterns.specs.declared.Mark.TheVariants.{Start, Ended, After}
use Rattle.patterns.proofs.FollowLaws.{remaining_ended}
use Rattle.lines.specs.Text.{text_of}
use Rattle.lines.proofs.WritingLaws.{stored_text}
use Rattle.lister.specs.Turns.{whole_list, NotEnded}
use Rattle.lister.proofs.list_turn.Goals as goal

not_ended : (m : Mark) → (m ≡ Ended → ⊥) → NotEnded (point_of m)
not_ended Start h = tt
not_ended Ended h = h refl
not_ended (After p) h = tt

pub page_turn-requires : goal.page_turn-requires
page_turn-requires c = (not_ended c.args.mark c.in_default.not-Ended, c.requires.0, c.requires.1, c.requires.2)

pub returns-in-Ended : goal.returns-in-Ended
unfolding text_of
returns-in-Ended c =
    let none = remaining_ended (whole_list c.args.query) in
    let all : c.args.count + 0 ≡ c.args.count = omega arith in
    let h = c.end_line.ensures in
    (rw (c.in-Ended.is, none, all) (sym (stored_text h.text h.front)), h.front)
