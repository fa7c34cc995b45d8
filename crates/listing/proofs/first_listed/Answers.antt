-- `first_listed` is the first set in the list's order, for the powers of the generator.
use lib.ListN.{length}
use Rattle.tables.specs.Tables.{power}
use Rattle.cursor.proofs.LookupLaws.{odd_ones}
use Rattle.listing.proofs.ListedLaws.{first_told}
use Rattle.listing.proofs.first_listed.Goals as goal

pub order_first-requires : goal.order_first-requires
order_first-requires c = (c.requires.ready, odd_ones c.requires)

pub returns : goal.returns
returns c =
    let cursor = c.args.cursor in
    let g = cursor.generator in
    first_told g.degree g.coefficients (length cursor.powers.powers.now) (length c.args.pos.now) cursor.syndrome c.requires.fit.divisor
    c.order_first.result c.order_first.new.pos c.order_first.ensures.counted (c.order_first.ensures.first (power g.degree g.coefficients) c.requires.lookup)
