-- `page` answers by conditions 1 to 8 and then leaves the output alone; else it is the page of what follows the mark.
use mathlib.Core.Path.{sym, ap, ◌∙◌}
use mathlib.Core.List.{List}
use Prim.Native.Nat.{ℕ}
use lib.ListN.{length}
use Rattle.std.proofs.lemmas.Result.{err_from_is_err_and}
use Rattle.base.specs.Outcome.{refused, accepted, Condition}
use Rattle.base.proofs.JudgeLaws.{turned_down, let_through, none_applies}
use Rattle.poly.specs.Polynomial.{degree}
use Rattle.poly.proofs.GeneratorLaws.{fit_accepted}
use Rattle.packet.proofs.PacketLaws.{fit_length}
use Rattle.tables.proofs.TableLaws.{right_unless_wrong}
use Rattle.patterns.specs.Patterns.{point_of}
use Rattle.patterns.specs.Marks.{remaining}
use Rattle.records.specs.Pages.{page_of, page_bytes}
use Rattle.patterns.proofs.MarkLaws.{fit_limit, fit_syndrome}
use Rattle.listing.proofs.MarkedLaws.{fit_mark}
use Rattle.paging.specs.Queries.{list_of}
use Rattle.pages.specs.Conditions.{page_request_by, page_conditions}
use Rattle.pages.proofs.page.Goals as goal

pub list_page-requires : goal.list_page-requires
list_page-requires c =
    let q = c.args.query in
    let t = c.args.tables in
    let n : ℕ = degree q.generator in
    let cs = page_conditions (page_request_by q t c.args.output.now) (point_of c.args.mark) in
    let clear = none_applies cs c.judge_page.ensures c.in_ok-judge_page.was in
    let right = right_unless_wrong n q.generator t.steps.now t.firsts.now (clear 6) in
    record {
      right = record { fit = fit_accepted q.generator (clear 1); right_steps = right.0; right_firsts = right.1 };
      short = (fit_length n q.bits (clear 2)).1;
      few = fit_limit q.limit (clear 3);
      within = fit_syndrome n q.syndrome (clear 4);
      marked = fit_mark q.bits q.limit (point_of c.args.mark) (clear 7);
    }

pub returns-in_err-judge_page : goal.returns-in_err-judge_page
returns-in_err-judge_page c =
    let out = c.args.output.now in
    let m = point_of c.args.mark in
    let cs = page_conditions (page_request_by c.args.query c.args.tables out) m in
    let rest : List (List ℕ) = remaining (list_of c.args.query) m in
    let e = c.judge_page.ensures in
    let h = c.in_err-judge_page.was in
    record {
      answer = let p = err_from_is_err_and c.from_residual.result c.from_residual.ensures.1 in rw (p.1, p.2) (sym (turned_down cs e h refused (accepted (page_of rest (length out)))));
      bytes = sym (turned_down cs e h (λ _. out) (page_bytes rest out));
    }
