-- What was printed, and what is due, are what was due; there are fewer turns after each.
use Rattle.std.proofs.Common.{◌≡◌, ℕ, List, ◌++◌, length}
use Rattle.std.specs.Io.KnownBytes.{Appends}
use Rattle.lister.specs.Turns.{turns_due, text_due, Sound, Tabled}
use Rattle.list.proofs.print_due.Given as goal

abbrev pub invariant-loop-n : goal.invariant-loop-n
invariant-loop-n g l =
    Sound l.next × Tabled l.next l.tables.steps.now l.tables.firsts.now × (length l.page ≡ length l.initial.page) × (length l.text ≡ length l.initial.text)
    × ((printed : List ℕ) × (text_due l.fn.due ≡ printed ++ text_due l.next) × Appends (g.W.Write.contents l.initial.out) (g.W.Write.contents l.out) printed)

abbrev pub decreases-loop-n : goal.decreases-loop-n
decreases-loop-n g l = turns_due l.next
