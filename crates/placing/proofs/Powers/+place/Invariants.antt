-- `place` finds the first set of as many positions as there is room for. It ends since each call has one position
-- less to place. The loop's invariant: no such set starts between `lo` and `a`.
use Rattle.std.proofs.Common.{◌≡◌, ℕ, length}
use Rattle.placing.specs.Placing.{first_from, Describes}
use Rattle.placing.proofs.Powers.+place.Given as goal

abbrev pub decreases-place : goal.decreases-place
decreases-place l = length l.pos.now

abbrev pub invariant-loop-a : goal.invariant-loop-a
invariant-loop-a l =
    (power : ℕ → ℕ) → Describes power l.self
    → first_from power (length l.self.powers.now) (length l.initial.pos) l.lo l.u ≡ first_from power (length l.self.powers.now) (length l.initial.pos) l.a l.u
