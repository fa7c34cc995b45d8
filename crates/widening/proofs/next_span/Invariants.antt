-- `next_span`: of two positions, every set of a span from `span` on has one of `best` or more. The invariant says so of the sets
-- whose smallest position is below `a`.
use Prim.Native.Nat.{ℕ, ◌≤◌}
use lib.ListN.{length}
use Rattle.placing.specs.Placing.{Describes}
use Rattle.widening.proofs.PairLaws.{Pairs}
use Rattle.widening.proofs.next_span.Given as goal

abbrev pub invariant-loop-a : goal.invariant-loop-a
invariant-loop-a l =
    (l.span ≤ l.best) × (l.best ≤ length l.powers.powers.now)
    × ((power : ℕ → ℕ) → Describes power l.powers → Pairs power (length l.powers.powers.now) l.u l.span l.best l.a)
