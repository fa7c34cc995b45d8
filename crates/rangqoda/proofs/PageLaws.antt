-- Bytes that are no mark are taken for one that condition 7 refuses, so a page call is accepted only from as many bytes as a mark has.
-- And the mark that it then writes is read back as it is by the next call.
use mathlib.Core.Path.{◌≡◌, sym, ap, ◌∙◌}
use mathlib.Core.Bool.{true, false, true≢false}
use mathlib.Core.List.{List}
use Prim.Native.Nat.{ℕ, ◌≤◌}
use native.Mathlib.Omega.{arith}
use lib.ListN.{length}
use Rattle.base.specs.Outcome.{refused, accepted, judge, earlier}
use Rattle.base.proofs.Cases.{by_equal}
use Rattle.base.proofs.JudgeLaws.{judge_applied, judge_clear}
use Rattle.patterns.specs.Patterns.{most_positions, Point, start, ended, after}
use Rattle.patterns.specs.Marks.{remaining, unfit_mark}
use Rattle.records.specs.Pages.{Page, page_of}
use Rattle.records.specs.Records.{longest_record}
use Rattle.patterns.proofs.MarkLaws.{fit_limit, fit_iff}
use Rattle.pages.specs.Conditions.{Request, page_conditions}
use Rattle.pages.specs.Calls.{requested, page_call}
use Rattle.pages.proofs.PageTheorem.{page_mark_fits}
use Rattle.codec.specs.Marks.{point_of_bytes, NoMark, other_length, mark_bytes}
use Rattle.codec.proofs.MarkByteLaws.{malformed-unfit, no_mark_malformed, Short, at_start, at_end, behind, read_back}

-- an accepted call's mark is fit
pub accepted_fit : (r : Request) (mark : Point) {page : Page} → accepted page ≡ page_call r mark → unfit_mark r.bits r.limit mark ≡ false
accepted_fit r mark {page} e =
    judge_clear (page_conditions r mark) (page_of (remaining (requested r) mark) (length r.output)) page (sym e) 7

no_mark_unfit : (r : Request) {s : List ℕ} → NoMark s → unfit_mark r.bits r.limit (point_of_bytes s) ≡ true
no_mark_unfit r h = ap (unfit_mark r.bits r.limit) (no_mark_malformed h) ∙ malformed-unfit r.bits r.limit

pub accepted_long : (r : Request) (s : List ℕ) {page : Page} → accepted page ≡ page_call r (point_of_bytes s) → length s ≡ longest_record
accepted_long r s e =
    by_equal (length s) longest_record (λ h. h)
    (λ h. absurd (true≢false (sym (no_mark_unfit r (other_length h)) ∙ accepted_fit r (point_of_bytes s) e)))

-- bytes that are no mark are refused by 7, unless an earlier condition applies
pub no_mark_refused : (r : Request) (s : List ℕ) → NoMark s
    → page_call r (point_of_bytes s) ≡ judge (earlier 7 (page_conditions r (point_of_bytes s))) refused (refused 7)
no_mark_refused r s h = judge_applied 7 (page_conditions r (point_of_bytes s)) _ (no_mark_unfit r h)

-- the next mark of an accepted call, written and read back, is that mark
pub mark_read_back : (r : Request) (mark : Point) (page : Page) → page_call r mark ≡ accepted page → point_of_bytes (mark_bytes page.next) ≡ page.next
mark_read_back r mark page e =
    let clear = judge_clear (page_conditions r mark) (page_of (remaining (requested r) mark) (length r.output)) page e in
    read_back (fit_short r.bits r.limit page.next (fit_limit r.limit (clear 3)) (page_mark_fits r mark page e))
  where
    fit_short : (l limit : ℕ) (m : Point) → limit ≤ most_positions → unfit_mark l limit m ≡ false → Short m
    fit_short l limit start h f = at_start
    fit_short l limit ended h f = at_end
    fit_short l limit (after ps) h f = let few : length ps ≤ most_positions = omega (arith, ((fit_iff l limit ps).0 f).1) in behind few
