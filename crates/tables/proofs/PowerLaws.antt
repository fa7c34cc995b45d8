-- The powers of x: each is x times the one before, none leaves 0, and what follows or precedes equal remainders is equal.
use mathlib.Core.Path.{◌≡◌, refl, sym, ap, ◌∙◌}
use Prim.Native.Nat.{ℕ, zero, suc, ◌+◌, ◌*◌, ◌^◌, ◌<◌, ◌≤◌}
use native.Mathlib.Omega.{arith}
use native.Mathlib.Nat.{add-zero, add-suc}
use lib.Pow.{pow_pos, pow_mono}
use Rattle.base.proofs.Cases.{by_equal}
use Rattle.poly.specs.Polynomial.{rem, reduce}
use Rattle.poly.specs.Fit.{Divisor}
use Rattle.poly.proofs.DivisionLaws.{rem_double, rem_small, rem_lt}
use Rattle.tables.specs.Tables.{power, step}
use Rattle.tables.proofs.StepLaws.{step_is, step_twice}

module _ (n g : ℕ) (d : Divisor n g) where
  pub power_lt : (p : ℕ) → power n g p < 2 ^ n
  unfolding power
  power_lt p = rem_lt n g d.low d.high (2 ^ p)

  pub power_suc : (p : ℕ) → power n g (suc p) ≡ reduce n g (power n g p * 2)
  unfolding power
  power_suc p = ap (rem n g) (omega arith) ∙ rem_double n g d.low d.high (2 ^ p)

  pub step-power : (p : ℕ) → step n g (power n g (suc p)) ≡ power n g p
  step-power p = ap (step n g) (power_suc p) ∙ step_twice n g d (power n g p) (power_lt p)

  pub power_after : (p q k : ℕ) → power n g p ≡ power n g q → power n g (p + k) ≡ power n g (q + k)
  power_after p q zero e = simp add-zero e
  power_after p q (suc k) e =
      simp add-suc (power_suc (p + k) ∙ ap (λ (x : ℕ). reduce n g (x * 2)) (power_after p q k e) ∙ sym (power_suc (q + k)))

  pub power-before : (p q k : ℕ) → power n g (p + k) ≡ power n g (q + k) → power n g p ≡ power n g q
  power-before p q zero e = simp add-zero at e
  power-before p q (suc k) e =
      power-before p q k (sym (step-power (p + k)) ∙ ap (step n g) (simp add-suc at e) ∙ step-power (q + k))

  -- a generator of degree 1 at least
  module _ (least : 1 ≤ n) where
    pub power_zero : power n g 0 ≡ 1
    unfolding power
    power_zero = rem_small n g 1 (omega (arith, pow_mono {i = 1} {j = n} least))

    pub power_nonzero : (p : ℕ) → 1 ≤ power n g p
    power_nonzero zero = omega (arith, power_zero)
    power_nonzero (suc p) =
        let one-before = power_nonzero p in
        by_equal (power n g (suc p)) 0
        (λ e. absurd (omega (arith, sym (step-power p) ∙ ap (step n g) e ∙ (step_is n g d 0 (pow_pos n)).0 refl)))
        (λ ne. omega arith)
