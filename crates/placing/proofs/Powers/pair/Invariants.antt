-- `pair` finds the first set of two. The loop's invariant: no set of two starts between `lo` and `a`, so the first
-- from `lo` on is the first from `a` on.
use Rattle.std.proofs.Common.{◌≡◌, ℕ, length}
use Rattle.placing.specs.Placing.{first_from, Describes}
use Rattle.placing.proofs.Powers.pair.Given as goal

abbrev pub invariant-loop-a : goal.invariant-loop-a
invariant-loop-a l =
    (power : ℕ → ℕ) → Describes power l.self → first_from power (length l.self.powers.now) 2 l.lo l.u ≡ first_from power (length l.self.powers.now) 2 l.a l.u
