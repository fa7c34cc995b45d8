-- `parse` reads number by number. Invariant: what is stored, with the numbers still to be read, are all the numbers of the
-- line, and the line is whole exactly where the rest of it is.
use Rattle.std.proofs.Common.{◌≡◌, ◌-◌}
use Rattle.std.proofs.lemmas.List.Edits.{sets}
use Rattle.parsing.specs.Parsing.{numbers_in, whole_line}
use Rattle.parsing.proofs.parse.Given as goal

abbrev pub invariant-loop-i : goal.invariant-loop-i
invariant-loop-i l =
    (sets l.out l.i (numbers_in (l.count - l.i) l.rest) ≡ sets l.initial.out 0 (numbers_in l.count l.input))
    × (whole_line (l.count - l.i) l.rest ≡ whole_line l.count l.input)
