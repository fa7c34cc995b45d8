-- Conditions 8 and 14 of a simulation, read where they do not apply.
use mathlib.Core.Path.{◌≡◌}
use mathlib.Core.Bool.{false, true≢false}
use Prim.Native.Nat.{ℕ, ◌≤◌}
use native.Mathlib.Omega.{arith}
use borrow.Author.Tests.{ltb-false, eqb-true, eqb-false, not-false}
use lib.Dec.{eqb}
use Rattle.base.proofs.Cases.{by_test}
use Rattle.repair.specs.Calls.{unfit_copy}
use Rattle.repair.proofs.ConditionLaws.{fit_copy}
use Rattle.trials.specs.Trials.{counts_length}
use Rattle.simulation.specs.Calls.{unfit_room, unfit_trials}

pub fit_room : (room long counts : ℕ) → unfit_room room long counts ≡ false → (room ≡ long) × (counts ≡ counts_length)
unfolding unfit_room
fit_room room long counts h =
    by_test (unfit_copy room long)
    (λ e. absurd (true≢false (rw e at h)))
    (λ e. (fit_copy room long e, eqb-true counts counts_length (not-false (eqb counts counts_length) (rw e at h))))

pub fit_trials : (n : ℕ) → unfit_trials n ≡ false → (1 ≤ n) × (n ≤ 65535)
unfolding unfit_trials
fit_trials n h =
    by_test (eqb n 0)
    (λ e. absurd (true≢false (rw e at h)))
    (λ e. let some = eqb-false n 0 e in (omega (arith, some), ltb-false 65535 n (rw e at h)))
