-- `append` gives the remainder of r * x^8 + b. Invariant: v leaves that remainder and is below x^(n + j); j falls.
use mathlib.Core.Path.{◌≡◌}
use Prim.Native.Nat.{◌+◌, ◌*◌, ◌^◌, ◌<◌}
use Rattle.poly.specs.Polynomial.{rem}
use Rattle.remainders.proofs.append.Given as goal

abbrev pub invariant-loop-j : goal.invariant-loop-j
invariant-loop-j l =
    (l.v < 2 ^ (l.g.degree + l.j)) × (rem l.g.degree l.g.coefficients l.v ≡ rem l.g.degree l.g.coefficients (l.r * 256 + l.b))
