-- Pages and repairs as they would be if a pattern held fewer positions: condition 3, and condition 8 of a page, go by that number. All else
-- is what it is.
use Rattle.std.specs.Prelude.{ℕ, ◌+◌, ◌*◌, Bool, ◌||◌, List, [], ◌∷◌, eqb, ltb, length}
use Rattle.base.specs.Outcome.{Outcome, refused, accepted, Condition, when, pick, judge}
use Rattle.patterns.specs.Patterns.{Point}
use Rattle.patterns.specs.Marks.{remaining}
use Rattle.records.specs.Pages.{Page, paged_by, left_by}
use Rattle.pages.specs.Conditions.{Request, page_conditions}
use Rattle.pages.specs.Calls.{requested}
use Rattle.verdicts.specs.Verdicts.{Said, verdict, output_for}
use Rattle.repair.specs.Calls.{Repair, repair_conditions}

-- conditions with another test for that of number k
abbrev pub retested : ℕ → Bool → List Condition → List Condition
retested k test [] = []
retested k test (t ∷ ts) = pick (eqb k t.number) (when k test) t ∷ retested k test ts

-- with at most so many positions in a pattern
module _ (most : ℕ) where
  abbrev pub limit_beyond : ℕ → Bool
  limit_beyond limit = eqb limit 0 || ltb most limit

  abbrev pub room_below : ℕ → Bool
  room_below room = ltb room (1 + 2 * most)

  abbrev pub page_conditions_within : Request → Point → List Condition
  page_conditions_within r mark = retested 3 (limit_beyond r.limit) (retested 8 (room_below (length r.output)) (page_conditions r mark))

  abbrev pub page_call_within : Request → Point → Outcome Page
  page_call_within r mark = paged_by (page_conditions_within r mark) (remaining (requested r) mark) r.output

  abbrev pub page_left_within : Request → Point → List ℕ
  page_left_within r mark = left_by (page_conditions_within r mark) (remaining (requested r) mark) r.output

  abbrev pub repair_conditions_within : Repair → List Condition
  repair_conditions_within r = retested 3 (limit_beyond r.limit) (repair_conditions r)

  abbrev pub repair_call_within : Repair → Outcome Said
  repair_call_within r = judge (repair_conditions_within r) refused (accepted (verdict r.crc r.check r.limit r.packet))

  abbrev pub repair_output_within : Repair → List ℕ
  repair_output_within r =
      judge (repair_conditions_within r) (λ _. r.output) (output_for r.crc r.check r.limit r.packet r.output)
