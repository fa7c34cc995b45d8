-- `tally_from` counts the patterns that pass from the one found on, and keeps the earliest. Invariant: `Tallying` of the laws.
-- What is ahead in the walk falls.
use lib.ListN.{length}
use Rattle.packet.specs.Packet.{flips}
use Rattle.checksum.specs.Checksum.{passes}
use Rattle.patterns.specs.Walk.{by_positions}
use Rattle.cursor.specs.Cursors.{ahead_of}
use Rattle.tallies.specs.Tallies.{met_by}
use Rattle.tallies.proofs.TallyLaws.{Tallying}
use Rattle.tallies.proofs.tally_from.Given as goal

abbrev pub invariant-loop-ahead : goal.invariant-loop-ahead
invariant-loop-ahead l =
    Tallying (λ ps. passes l.weighed.check (flips l.weighed.packet.now ps)) (length l.cursor.powers.powers.now) (length l.initial.pos) (met_by l.cursor (length l.initial.pos))
    (ahead_of by_positions (met_by l.cursor (length l.initial.pos)) l.initial.ahead l.initial.pos) l.pos l.ahead l.tally

abbrev pub decreases-loop-ahead : goal.decreases-loop-ahead
decreases-loop-ahead l =
    length (ahead_of by_positions (met_by l.cursor (length l.initial.pos)) l.ahead l.pos)
