-- `resume` finds the first set of as many positions that comes after the given one. It ends since each call has one
-- position less to go on from.
use Rattle.std.proofs.Common.{length}
use Rattle.placing.proofs.Powers.+resume.Given as goal

abbrev pub decreases-resume : goal.decreases-resume
decreases-resume l = length l.pos.now
