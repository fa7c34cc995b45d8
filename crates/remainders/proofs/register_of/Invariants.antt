-- `register_of` undoes n multiplications by x. Invariant: of those undone, times x leaves the initial value, and r is a remainder.
use mathlib.Core.Path.{◌≡◌}
use Prim.Native.Nat.{◌*◌, ◌^◌, ◌<◌}
use Rattle.poly.specs.Polynomial.{rem}
use Rattle.remainders.proofs.register_of.Given as goal

abbrev pub invariant-loop : goal.invariant-loop
invariant-loop l =
    (l.r < 2 ^ l.g.degree) × (rem l.g.degree l.g.coefficients (l.r * 2 ^ l.counter) ≡ l.init)
