-- `register_of` undoes n multiplications by x. Invariant: of those undone, times x leaves the initial value, and r is a remainder.
use mathlib.Core.Path.{◌≡◌, sym, ap, ◌∙◌}
use Prim.Native.Nat.{ℕ, ◌+◌, ◌*◌, ◌^◌}
use native.Mathlib.Omega.{arith}
use native.Mathlib.Nat.{mul_assoc}
use native.Mathlib.Numerals.{add-one}
use Rattle.poly.specs.Polynomial.{rem}
use Rattle.poly.proofs.DivisionLaws.{rem_small, rem_shift}
use Rattle.remainders.proofs.register_of.Goals as goal

pub loop-init : goal.loop-init
loop-init c =
    let a = c.args in
    let once : a.init * 1 ≡ a.init = omega arith in
    (c.requires.1, ap (rem a.g.degree a.g.coefficients) once ∙ rem_small a.g.degree a.g.coefficients a.init c.requires.1)

pub loop-preserved : goal.loop-preserved
loop-preserved c =
    let n : ℕ = c.args.g.degree in
    let g : ℕ = c.args.g.coefficients in
    let i : ℕ = c.loop.counter in
    let t : ℕ = c.back-r.result in
    let d = c.requires.0.divisor in
    let power : 2 ^ (i + 1) ≡ 2 * 2 ^ i = ap (λ (x : ℕ). 2 ^ x) (add-one i) ∙ omega arith in (
      c.back-r.ensures.0,
      ap (λ (x : ℕ). rem n g (t * x)) power
          ∙ ap (rem n g) (sym (mul_assoc t 2 (2 ^ i)))
          ∙ rem_shift n g d.low d.high i (t * 2)
          ∙ ap (λ (x : ℕ). rem n g (x * 2 ^ i)) c.back-r.ensures.1
          ∙ c.loop.invariant.1,
    )
