-- `divide_by_ccitt` gives what `divide` gives, by ccitt. Invariant: r is the remainder of the bytes read.
use Rattle.poly.specs.Generators.{ccitt}
use Rattle.remainders.proofs.DivideLaws.{Divided}
use Rattle.remainders.proofs.divide_by_ccitt.Given as goal

abbrev pub invariant-loop-b : goal.invariant-loop-b
invariant-loop-b l =
    Divided ccitt l.register l.packet l.b-index l.r
