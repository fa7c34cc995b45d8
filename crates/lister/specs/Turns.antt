-- How the program's text is written turn by turn: for inner functions alone.
use Rattle.std.specs.Prelude.{◌≡◌, false, List, ◌++◌, ℕ, ◌+◌, ◌*◌, ◌^◌, ◌<◌, ◌≤◌, length, get_or, take}
use Rattle.base.specs.Outcome.{accepted, pick}
use Rattle.base.specs.Judged.{judged}
use Rattle.base.specs.Refusals.{number}
use Rattle.poly.specs.Polynomial.{degree}
use Rattle.tables.specs.Tables.{step_table, first_table}
use Rattle.patterns.specs.Patterns.{Point, start, ended, after, point_of}
use Rattle.patterns.specs.Marks.{remaining, unfit_mark}
use Rattle.records.specs.Records.{longest_record}
use Rattle.lines.specs.Text.{text_of, end_line, refused_line, bad_line}
use Rattle.parsing.specs.Parsing.{numbers_in, whole_line}
use Rattle.lines.specs.Writing.{Front, line_room}
use Rattle.paging.specs.declared.Query.{Query}
use Rattle.lister.specs.declared.Due.{Due}
use Rattle.lister.specs.declared.Due.TheVariants.{Bad, Refused, Listing}
use Rattle.lister.specs.declared.Turn.{Turn}
use Rattle.lister.specs.declared.Turn.TheVariants.{Last, More}
use Rattle.lister.specs.Printed.{greatest_listed, list_conditions, list_for, printed_for}

-- the bytes of the longest line of four numbers: nine digits and a closing byte for each
abbrev pub longest_line : ℕ
longest_line = 4 * (9 + 1)

-- the first n bytes of a buffer are what was read of an input: all of it, or as much as the buffer holds
abbrev pub WasRead : List ℕ → ℕ → List ℕ → Type 0
WasRead buffer n input = take n buffer ≡ take (length buffer) input

-- what is printed, computed by reading the line; PrintedLaws has that it is what Prints says, and nothing else is
abbrev pub printed : List ℕ → List ℕ
printed input =
    let ns : List ℕ = numbers_in 4 input in
    pick (whole_line 4 input) (printed_for (get_or ns 0 0) (get_or ns 1 0) (get_or ns 2 0) (get_or ns 3 0)) bad_line

-- the list of some settings, and what of it follows a mark
abbrev pub whole_list : Query → List (List ℕ)
whole_list s = list_for s.generator s.bits s.limit s.syndrome

abbrev pub ahead : Query → Point → List (List ℕ)
ahead s mark = remaining (whole_list s) mark

-- the text that is due: of a list, what follows the mark, and "end" with the number of these and of those that came before
abbrev pub text_due : Due → List ℕ
text_due Bad = bad_line
text_due (Refused r) = refused_line (number r)
text_due (Listing s mark count) = text_of (ahead s (point_of mark)) ++ end_line (count + length (ahead s (point_of mark)))

-- the turns that it may take at most: one for the line that closes, and where the mark is not Ended one for each pattern and one more
abbrev pub turns_for : Query → Point → ℕ
turns_for s start = 2 + length (ahead s start)
turns_for s ended = 1
turns_for s (after ps) = 2 + length (ahead s (after ps))

abbrev pub NotEnded : Point → Type 0
NotEnded start = Unit {0}
NotEnded ended = ⊥
NotEnded (after ps) = Unit {0}

abbrev pub turns_due : Due → ℕ
turns_due Bad = 1
turns_due (Refused r) = 1
turns_due (Listing s mark count) = turns_for s (point_of mark)

-- settings that are accepted, a mark that fits them, and the count of the patterns up to it
pub record Going (s : Query) (mark : Point) (count : ℕ) : Type 0 where
  pub clear : judged (list_conditions s.generator s.bits s.limit s.syndrome) ≡ accepted tt
  pub fits : unfit_mark s.bits s.limit mark ≡ false
  pub counted : count + length (ahead s mark) ≡ length (whole_list s)

abbrev pub Sound : Due → Type 0
Sound Bad = Unit {0}
Sound (Refused r) = Unit {0}
Sound (Listing s mark count) = Going s (point_of mark) count

-- the entries of each table that is used, at most those of the greatest degree, and the tables of the generator
abbrev pub entries_for : Due → ℕ
entries_for Bad = 0
entries_for (Refused r) = 0
entries_for (Listing s mark count) = 2 ^ degree s.generator

abbrev pub most_entries : ℕ
most_entries = 2 ^ greatest_listed

abbrev pub Tabled : Due → List ℕ → List ℕ → Type 0
Tabled Bad steps firsts = Unit {0}
Tabled (Refused r) steps firsts = Unit {0}
Tabled (Listing s mark count) steps firsts =
    (steps ≡ step_table (degree s.generator) s.generator) × (firsts ≡ first_table (degree s.generator) s.generator)

-- room for a page, for four bytes of text for each of its own, and for a line with one number
abbrev pub HasRoom : List ℕ → List ℕ → Type 0
HasRoom page text = (longest_record ≤ length page) × (4 * length page ≤ length text) × (line_room ≤ length text)

-- what a turn did: the first n bytes of its output are the text due, up to what is due next
abbrev pub Turned : Due → List ℕ → List ℕ → List ℕ → Turn → Type 0
Turned due steps firsts text (Last n) = (text_due due ≡ take n text) × Front n text
Turned due steps firsts text (More n next) =
    (text_due due ≡ take n text ++ text_due next) × Front n text × (turns_due next < turns_due due) × Sound next × Tabled next steps firsts

-- the texts of a run of turns, joined; the outputs may be others at each turn
pub data Run (steps firsts : List ℕ) : Due → List ℕ → Type 0 where
  last : {due : Due} (text : List ℕ) (n : ℕ) → Turned due steps firsts text (Last n) → Run steps firsts due (take n text)
  more : {due next : Due} (text : List ℕ) (n : ℕ) {rest : List ℕ} → Turned due steps firsts text (More n next) → Run steps firsts next rest
      → Run steps firsts due (take n text ++ rest)
