-- `total_of` equals its definition. Invariant: the running total and that of the bytes left make the total of all.
use Prim.Native.Nat.{◌+◌}
use mathlib.Core.Path.{◌≡◌}
use lib.ListN.{drop}
use Rattle.checksum.specs.Checksum.{total}
use Rattle.weighing.proofs.total_of.Given as goal

abbrev pub invariant-loop-i : goal.invariant-loop-i
invariant-loop-i l =
    l.t + total (drop l.i l.s) ≡ total l.s
