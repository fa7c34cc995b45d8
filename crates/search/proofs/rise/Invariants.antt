-- `rise` ends at the first count at which the step finds something. The loop's invariant: it found nothing at the counts below `k`.
use Rattle.std.proofs.Common.{ℕ, ◌<◌, ◌≤◌}
use Rattle.search.specs.Search.{Missed, Steps}
use Rattle.search.proofs.rise.Given as goal

abbrev pub invariant-loop-k : goal.invariant-loop-k
invariant-loop-k g l = (j : ℕ) → l.count ≤ j → j < l.k → Missed (Steps g.F.Fn l.step) j
