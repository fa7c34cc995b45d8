-- `advance` is the next set in the list's order, for the powers of the generator.
use mathlib.Core.List.{List}
use Prim.Native.Nat.{ℕ}
use lib.ListN.{length, take}
use Rattle.tables.specs.Tables.{power}
use Rattle.cursor.proofs.LookupLaws.{odd_ones}
use Rattle.listing.proofs.ListedLaws.{next_told}
use Rattle.listing.proofs.advance.Goals as goal

pub order_next-requires : goal.order_next-requires
order_next-requires c =
    let p = c.requires in
    (p.0.ready, p.1.0, p.1.1, odd_ones p.0)

pub returns : goal.returns
returns c =
    let cursor = c.args.cursor in
    let g = cursor.generator in
    let q : List ℕ = take c.args.count c.args.pos.now in
    next_told g.degree g.coefficients (length cursor.powers.powers.now) (length c.args.pos.now) cursor.syndrome c.requires.0.fit.divisor q
    c.order_next.result c.order_next.new.pos c.order_next.ensures.counted (c.order_next.ensures.next (power g.degree g.coefficients) c.requires.0.lookup)
