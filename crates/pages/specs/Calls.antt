-- The page call: what it answers, and what its output then holds.
use Rattle.std.specs.Prelude.{ℕ, List}
use Rattle.base.specs.Outcome.{Outcome}
use Rattle.poly.specs.Polynomial.{degree}
use Rattle.patterns.specs.Patterns.{Point}
use Rattle.patterns.specs.Listing.{listing}
use Rattle.patterns.specs.Marks.{remaining}
use Rattle.records.specs.Pages.{Page, paged_by, left_by}
use Rattle.pages.specs.Conditions.{Request, page_conditions}

-- the list that a call pages through
abbrev pub requested : Request → List (List ℕ)
requested r = listing (degree r.generator) r.generator r.bits r.limit r.syndrome

abbrev pub page_call : Request → Point → Outcome Page
page_call r mark = paged_by (page_conditions r mark) (remaining (requested r) mark) r.output

-- the output after the call
abbrev pub page_left : Request → Point → List ℕ
page_left r mark = left_by (page_conditions r mark) (remaining (requested r) mark) r.output
