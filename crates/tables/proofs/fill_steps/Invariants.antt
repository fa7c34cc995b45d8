-- `fill_steps` stores the step table. The invariant: the entries before s are steps.
use mathlib.Core.Path.{◌≡◌}
use Prim.Native.Nat.{ℕ, ◌<◌}
use lib.ListN.{get_or}
use Rattle.tables.specs.Tables.{step}
use Rattle.tables.proofs.fill_steps.Given as goal

abbrev pub invariant-loop-s : goal.invariant-loop-s
invariant-loop-s l =
    (k : ℕ) → k < l.s → get_or l.steps k 0 ≡ step l.g.degree l.g.coefficients k
