-- `walk` stores each power's position at its remainder, and stops at the period. The invariant: t is what x^p leaves, p is below
-- the period, and the list holds the positions of the powers before p. The measure is what is left of the period.
use mathlib.Core.Path.{◌≡◌}
use Prim.Native.Nat.{◌-◌, ◌<◌}
use lib.ListN.{length}
use Rattle.tables.specs.Tables.{power, period}
use Rattle.tables.proofs.WalkLaws.{Walked}
use Rattle.tables.proofs.walk.Given as goal

abbrev pub invariant-loop-t : goal.invariant-loop-t
invariant-loop-t l =
    (l.p < period l.g.degree l.g.coefficients)
    × (l.t ≡ power l.g.degree l.g.coefficients l.p)
    × (length l.firsts ≡ length l.initial.firsts)
    × Walked l.g.degree l.g.coefficients l.p l.firsts

abbrev pub decreases-loop-t : goal.decreases-loop-t
decreases-loop-t l =
    period l.g.degree l.g.coefficients - l.p
