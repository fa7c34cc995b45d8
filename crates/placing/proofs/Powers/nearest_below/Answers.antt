-- `nearest_below` returns the nearest position: its first one, none below the end, or the first one some periods on.
use mathlib.Core.Path.{◌≡◌}
use Prim.Native.Nat.{ℕ, ◌+◌, ◌-◌, ◌*◌, ◌/◌, ◌<◌, ◌≤◌}
use native.Mathlib.Omega.{arith}
use native.Mathlib.Nat.{mul_comm}
use lib.ListN.{get_or}
use Rattle.placing.proofs.NearestLaws.{reach_bounds, near_none, near_period, near_end}
use Rattle.placing.proofs.Powers.nearest_below.Goals as goal

pub returns-then-self : goal.returns-then-self
returns-then-self c power t =
    let a = c.args in
    near_none t.firsts a.u (omega (arith, c.requires.0.index.full)) a.end a.lo (omega (arith, c.requires.0.shape.short)) (λ h. omega arith) (λ h. omega arith)

-- how far the periods reach; either factor of their product may stand first
reaches : (d period : ℕ) → 1 ≤ period → let k = (d + period - 1) / period in
    ((d ≤ k * period) × (k * period < d + period)) × (period * k ≡ k * period)
reaches d period h = (reach_bounds d period h, mul_comm period ((d + period - 1) / period))

pub returns-then-p-end : goal.returns-then-p-end
returns-then-p-end c =
    let a = c.args in (
      c.if-p-end.true,
      λ power t. near_period t.firsts a.u (omega (arith, c.requires.0.index.full)) a.end a.lo (omega (arith, c.requires.0.shape.short)) c.if-lo-f.false c.requires.1 c.requires.0.index.positive
          (omega (arith, reaches (a.lo - get_or a.self.firsts.now a.u 0) a.self.period c.requires.0.index.positive)),
    )

pub returns-else-p-end : goal.returns-else-p-end
returns-else-p-end c power t =
    let a = c.args in
    near_end c.if-p-end.false
    (near_period t.firsts a.u (omega (arith, c.requires.0.index.full)) a.end a.lo (omega (arith, c.requires.0.shape.short)) c.if-lo-f.false c.requires.1 c.requires.0.index.positive
    (omega (arith, reaches (a.lo - get_or a.self.firsts.now a.u 0) a.self.period c.requires.0.index.positive)))
