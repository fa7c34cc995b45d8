-- The period exists below 2 ^ n: of the 2 ^ n powers below it two leave the same one of the 2 ^ n - 1 remainders other than 0.
-- Two powers leave the same remainder exactly when they agree modulo the period.
use mathlib.Core.Path.{◌≡◌, sym, ap, ◌∙◌}
use mathlib.Core.Logic.{◌↔◌}
use Prim.Native.Nat.{ℕ, zero, suc, ◌+◌, ◌-◌, ◌*◌, ◌/◌, ◌%◌, ◌^◌, ◌<◌, ◌≤◌}
use native.Mathlib.Omega.{arith}
use native.Mathlib.Nat.{add-zero, add_comm, zero-mul, suc-mul, mod-lt, mod-eq_of_lt, mod-add-div', div-add-mod', add-mul-mod_self_right}
use borrow.Author.Tests.{eqb-true, eq-eqb}
use lib.Dec.{eqb}
use lib.Pow.{pow_pos}
use Rattle.base.proofs.Cases.{by_order, by_equal}
use Rattle.poly.specs.Fit.{Divisor}
use Rattle.tables.specs.Tables.{power, period}
use Rattle.tables.proofs.LeastLaws.{least-found, Least, Twice, pigeonhole}
use Rattle.tables.proofs.PowerLaws.{power_lt, power_zero, power_nonzero, power_after, power-before}

module _ (n g : ℕ) (d : Divisor n g) (at_least : 1 ≤ n) where
  -- equal remainders are a return to 1 apart
  return_between : (p q : ℕ) → p ≤ q → power n g p ≡ power n g q → power n g (q - p) ≡ 1
  return_between p q h e =
      let split : q ≡ q - p + p = omega arith in
      sym (power-before n g d 0 (q - p) p (ap (power n g) (omega arith) ∙ e ∙ ap (power n g) split)) ∙ power_zero n g d at_least

  record Return : Type 0 where
    at : ℕ
    positive : 1 ≤ at
    below : at < 2 ^ n
    one : power n g at ≡ 1

  return_of : Twice (λ i. power n g i - 1) (2 ^ n - 1) → Return
  return_of t =
      let e : power n g t.i ≡ power n g t.j =
      omega (arith, t.equal, power_nonzero n g d at_least t.i, power_nonzero n g d at_least t.j) in
      record {
        at = t.j - t.i;
        positive = omega (arith, t.before);
        below = omega (arith, t.before, t.within, pow_pos n);
        one = return_between t.i t.j (omega (arith, t.before)) e;
      }

  return : Return
  return =
      return_of (pigeonhole (2 ^ n - 1) (λ i. power n g i - 1) (λ i h. omega (arith, power_lt n g d i, power_nonzero n g d at_least i)))

  found : (k : ℕ) → 1 ≤ k → k < 2 ^ n → power n g k ≡ 1 → Least (λ c. eqb (power n g c) 1) 0 1 k (period n g)
  unfolding period
  found k l h e = least-found (λ c. eqb (power n g c) 1) 0 (2 ^ n - 1) 1 k l (omega (arith, pow_pos n)) (eq-eqb _ _ e)

  pub period_positive : 1 ≤ period n g
  period_positive = (found return.at return.positive return.below return.one).at_least

  pub period_lt : period n g < 2 ^ n
  period_lt = omega (arith, (found return.at return.positive return.below return.one).at_most, return.below)

  pub power-period : power n g (period n g) ≡ 1
  power-period = eqb-true _ _ (found return.at return.positive return.below return.one).passes

  pub period-least : (k : ℕ) → 1 ≤ k → power n g k ≡ 1 → period n g ≤ k
  period-least k l e = by_order k (2 ^ n) (λ h. (found k l h e).at_most) (λ h. omega (arith, period_lt))

  pub power_again : (p : ℕ) → power n g (p + period n g) ≡ power n g p
  power_again p =
      ap (power n g) (add_comm p (period n g))
      ∙ power_after n g d (period n g) 0 p (power-period ∙ sym (power_zero n g d at_least))
      ∙ ap (power n g) (omega arith)

  pub power_turns : (p k : ℕ) → power n g (p + k * period n g) ≡ power n g p
  power_turns p zero = simp (zero-mul, add-zero)
  power_turns p (suc k) =
      let more : p + suc k * period n g ≡ p + k * period n g + period n g = omega (arith, suc-mul k (period n g)) in
      ap (power n g) more ∙ power_again (p + k * period n g) ∙ power_turns p k

  pub power-mod : (p : ℕ) → power n g (p % period n g) ≡ power n g p
  power-mod p =
      sym (power_turns (p % period n g) (p / period n g)) ∙ ap (power n g) (mod-add-div' p (period n g))

  -- only a multiple of the period returns to 1
  returns_multiple : (k : ℕ) → power n g k ≡ 1 → k ≡ k / period n g * period n g
  returns_multiple k e =
      by_equal (k % period n g) 0 (λ z. omega (arith, div-add-mod' k (period n g)))
      (λ nz. absurd (omega (arith, period-least (k % period n g) (omega arith) (power-mod k ∙ e), mod-lt k {m = period n g} period_positive)))

  pub power_only : (p q : ℕ) → power n g p ≡ power n g q → p ≤ q → (k : ℕ) × (q ≡ p + k * period n g)
  power_only p q e h =
      let one = return_between p q h e in
      ((q - p) / period n g, omega (arith, returns_multiple (q - p) one))

  same-mod : (p q : ℕ) → power n g p ≡ power n g q → p ≤ q → p % period n g ≡ q % period n g
  same-mod p q e h =
      let k = power_only p q e h in
      sym (ap (λ (x : ℕ). x % period n g) k.1 ∙ add-mul-mod_self_right p k.0 (period n g))

  pub power-same : (p q : ℕ) → (power n g p ≡ power n g q) ↔ (p % period n g ≡ q % period n g)
  power-same p q = (
    (λ e. by_order q p (λ h. sym (same-mod q p (sym e) (omega arith))) (λ h. same-mod p q e h)),
    (λ e. sym (power-mod p) ∙ ap (power n g) e ∙ power-mod q),
  )

  -- below the period no remainder comes twice
  pub power_apart : (p q : ℕ) → p < period n g → q < period n g → power n g p ≡ power n g q → p ≡ q
  power_apart p q hp hq e = sym (mod-eq_of_lt hp) ∙ (power-same p q).0 e ∙ mod-eq_of_lt hq
