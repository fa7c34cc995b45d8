-- At most one is counted for each bit.
use Rattle.std.proofs.Common.{◌≤◌}
use Rattle.tables_test.proofs.found.Given as goal

abbrev pub invariant-loop-bit : goal.invariant-loop-bit
invariant-loop-bit g l = l.count ≤ l.bit
