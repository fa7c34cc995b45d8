-- `fill` writes what follows, as many records as fit. Invariant: `Filling` of the laws, for what is ahead at first. The
-- room left in the output falls.
use mathlib.Core.Path.{◌≡◌, refl, ◌∙◌}
use native.Mathlib.Omega.{arith}
use borrow.Author.Rules.{rules}
use lib.ListN.{length, take}
use Rattle.records.proofs.PageLaws.{record_length}
use Rattle.patterns.specs.Order.{before}
use Rattle.cursor.proofs.AheadLaws.{told_from}
use Rattle.listing.specs.Listings.{listed_by}
use Rattle.paging.proofs.FillLaws.{filling_none, filling_more, filled_page, filled_bytes, stopped_page, stopped_bytes}
use Rattle.paging.proofs.fill.Goals as goal

pub loop-ahead-init : goal.loop-ahead-init
loop-ahead-init c = filling_none _ _ _ _ _ _ c.requires.1 refl

pub returns-then-output-used : goal.returns-then-output-used
returns-then-output-used c =
    let f = c.loop-ahead.invariant in
    record {
      page = stopped_page f c.in-Some.is (omega (arith, f.long));
      bytes = stopped_bytes f c.in-Some.is (omega (arith, f.long));
    }

pub loop-ahead-smaller : goal.loop-ahead-smaller
loop-ahead-smaller c = omega (arith, c.put_record-used.ensures.behind, c.loop-ahead.invariant.room, c.if-output-used.false, record_length (take c.in-Some.k c.loop-ahead.pos))

pub loop-ahead-preserved : goal.loop-ahead-preserved
loop-ahead-preserved c =
    let f = c.loop-ahead.invariant in
    let a = c.advance-ahead in
    let p = c.put_record-used in
    let l : length a.new.pos ≡ length c.loop-ahead.pos = search rules in
    let o : length p.new.out ≡ length c.loop-ahead.output = search rules in
    filling_more f c.in-Some.is (omega (arith, c.if-output-used.false, f.long)) c.requires.2
    c.from_positions-last.result c.from_positions-last.ensures
    p.result p.new.out a.new.pos p.ensures
    a.result
    (told_from before (listed_by c.args.cursor) (length c.args.cursor.powers.powers.now) a.result a.new.pos f.placed refl a.ensures)
    (l ∙ f.placed) (o ∙ f.long)

pub returns : goal.returns
returns c =
    record {
      page = filled_page c.loop-ahead.invariant c.in_default.is;
      bytes = filled_bytes c.loop-ahead.invariant c.in_default.is;
    }
