-- `seldom_below` finds none where the first position is at or past the end.
use native.Mathlib.Omega.{arith}
use Rattle.placing.proofs.NearestLaws.{near_none}
use Rattle.placing.proofs.Powers.seldom_below.Goals as goal

pub returns-then-end-f : goal.returns-then-end-f
returns-then-end-f c power t =
    let a = c.args in
    near_none t.firsts a.u (omega (arith, c.requires.0.index.full)) a.end a.lo (omega (arith, c.requires.0.shape.short)) (λ h. omega arith) (λ h. omega arith)
