-- `append` gives the remainder of r * x^8 + b. Invariant: v leaves that remainder and is below x^(n + j); j falls.
use mathlib.Core.Path.{◌≡◌, refl, sym, ◌∙◌}
use Prim.Native.Nat.{ℕ, ◌+◌}
use native.Mathlib.Omega.{arith}
use lib.Pow.{pow-add}
use Rattle.poly.proofs.DivisionLaws.{rem_small}
use Rattle.remainders.proofs.append.Goals as goal

pub loop-j-init : goal.loop-j-init
loop-j-init c = (omega (arith, pow-add 2 c.args.g.degree 8), refl)

pub returns : goal.returns
returns c =
    let n : ℕ = c.args.g.degree in
    let e : n + c.loop-j.j ≡ n = omega arith in
    sym (rem_small n c.args.g.coefficients c.loop-j.v (rw e at c.loop-j.invariant.0)) ∙ c.loop-j.invariant.1
