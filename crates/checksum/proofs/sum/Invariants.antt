-- `sum` equals its definition. Invariant: the running sum, continued over the words of the bytes that are left, is the sum of all.
use mathlib.Core.Path.{◌≡◌}
use lib.ListN.{drop}
use Rattle.checksum.specs.Checksum.{sum_from, sum_of, words}
use Rattle.checksum.proofs.sum.Given as goal

abbrev pub invariant-loop-i : goal.invariant-loop-i
invariant-loop-i l =
    sum_from l.r (words (drop l.i l.s)) ≡ sum_of l.s
