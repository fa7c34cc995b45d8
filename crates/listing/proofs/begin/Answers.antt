-- `begin` searches from the mark, by its case.
use Rattle.patterns.specs.Listing.{follows}
use Rattle.patterns.proofs.FollowLaws.{remaining_start, remaining_ended}
use Rattle.listing.proofs.begin.Goals as goal

pub returns-in-Start : goal.returns-in-Start
returns-in-Start c = rw (c.in-Start.is, remaining_start) c.first_listed.ensures

pub returns-in-Ended : goal.returns-in-Ended
returns-in-Ended c = rw (c.in-Ended.is, remaining_ended)

pub returns-in-After : goal.returns-in-After
unfolding follows
returns-in-After c = rw c.in-After.is c.go_on.ensures
