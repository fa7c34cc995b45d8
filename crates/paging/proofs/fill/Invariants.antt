-- `fill` writes what follows, as many records as fit. Invariant: `Filling` of the laws, for what is ahead at first. The
-- room left in the output falls.
use Prim.Native.Nat.{◌-◌}
use lib.ListN.{length}
use Rattle.patterns.specs.Order.{before}
use Rattle.cursor.specs.Cursors.{ahead_of}
use Rattle.listing.specs.Listings.{listed_by}
use Rattle.paging.proofs.FillLaws.{Filling}
use Rattle.paging.proofs.fill.Given as goal

abbrev pub invariant-loop-ahead : goal.invariant-loop-ahead
invariant-loop-ahead l =
    Filling (length l.cursor.powers.powers.now) (length l.initial.pos) (listed_by l.cursor (length l.initial.pos))
    (ahead_of before (listed_by l.cursor (length l.initial.pos)) l.initial.ahead l.initial.pos) l.initial.output l.pos l.output l.ahead l.last l.used l.written

abbrev pub decreases-loop-ahead : goal.decreases-loop-ahead
decreases-loop-ahead l = length l.initial.output - l.used
