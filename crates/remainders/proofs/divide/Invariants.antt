-- `divide` gives the remainder of the bytes behind a register. Invariant: r is that of the bytes read.
use Rattle.remainders.proofs.DivideLaws.{Divided}
use Rattle.remainders.proofs.divide.Given as goal

abbrev pub invariant-loop-b : goal.invariant-loop-b
invariant-loop-b l =
    Divided l.g l.register l.packet l.b-index l.r
