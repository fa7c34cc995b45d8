-- `page_in` prepares a cursor, and lends the part of the positions that the page needs.
use mathlib.Core.Path.{sym, ap, ap₂, subst₂, ◌∙◌}
use mathlib.Core.List.{List}
use Prim.Native.Nat.{ℕ, ◌^◌, ◌<◌, ◌≤◌}
use lib.ListN.{length}
use lib.Seq.{length-take-le}
use Rattle.poly.specs.declared.Generator.{Generator}
use Rattle.patterns.specs.Patterns.{most_positions, point_of}
use Rattle.patterns.specs.Listing.{listing}
use Rattle.patterns.specs.Marks.{remaining}
use Rattle.records.specs.Pages.{page_of, page_bytes}
use Rattle.cursor.proofs.LookupLaws.{as_long, prepared}
use Rattle.listing.specs.Listings.{Marked}
use Rattle.paging.proofs.page_in.Goals as goal

pub page_by-requires : goal.page_by-requires
page_by-requires c =
    let h = c.requires.0 in
    let r = c.args.query in
    let p = c.prepare in
    let within : r.syndrome < 2 ^ c.of-generator.result.degree = rw c.of-generator.ensures h.within in
    let m = subst₂ (λ (l m : ℕ). Marked l m (point_of c.args.mark) × (m ≤ most_positions)) (sym (as_long p.ensures)) (sym (length-take-le _ _ h.few)) (h.marked, h.few) in
    (prepared p.result p.ensures r.syndrome within, m.0, m.1)

pub returns : goal.returns
returns c =
    let a = c.args in
    let r = a.query in
    let g = c.of-generator.result in
    let e =
    ap₂ (λ (l m : ℕ). remaining (listing g.degree g.coefficients l m r.syndrome) (point_of a.mark)) (as_long c.prepare.ensures) (length-take-le _ _ c.requires.0.few)
    ∙ ap (λ (h : Generator). remaining (listing h.degree h.coefficients r.bits r.limit r.syndrome) (point_of a.mark)) c.of-generator.ensures in
    record {
      page = c.page_by.ensures.page ∙ ap (λ (t : List (List ℕ)). page_of t (length a.output.now)) e;
      bytes = c.page_by.ensures.bytes ∙ ap (λ (t : List (List ℕ)). page_bytes t a.output.now) e;
    }
