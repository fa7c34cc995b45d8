-- The first position of a remainder: it leaves that remainder, none before it does, and it is absent exactly when no power leaves it.
use mathlib.Core.Path.{◌≡◌, sym, ap, ◌∙◌}
use mathlib.Core.Logic.{◌↔◌, ◌⊎◌, inl, inr, ⊎_elim}
use Prim.Native.Nat.{ℕ, suc, ◌+◌, ◌-◌, ◌%◌, ◌^◌, ◌<◌, ◌≤◌}
use native.Mathlib.Omega.{arith}
use native.Mathlib.Nat.{mod-lt, mod-le}
use borrow.Author.Tests.{eqb-true, eq-eqb}
use lib.Dec.{eqb}
use lib.Pow.{pow_mono, pow_pos}
use Rattle.poly.specs.Fit.{Divisor}
use Rattle.tables.specs.Tables.{entry_bits, power, step, first, period, absent}
use Rattle.tables.proofs.LeastLaws.{least-found, least-or_other}
use Rattle.tables.proofs.PowerLaws.{power_nonzero, step-power}
use Rattle.tables.proofs.PeriodLaws.{period_positive, period_lt, power-period, power-mod, power_apart}

module _ (n g : ℕ) (d : Divisor n g) (at_least : 1 ≤ n) where
  -- a power's remainder is found, below the period and no later than that power
  pub record Located (p : ℕ) : Type 0 where
    pub leaves : power n g (first n g (power n g p)) ≡ power n g p
    pub early : first n g (power n g p) ≤ p
    pub below : first n g (power n g p) < period n g

  pub first_located : (p : ℕ) → Located p
  unfolding first
  first_located p =
      let c = period n g in
      let low = mod-lt p {m = c} (period_positive n g d at_least) in
      let f = least-found (λ q. eqb (power n g q) (power n g p)) absent (2 ^ n) 0 (p % c) (omega arith) (omega (arith, period_lt n g d at_least)) (eq-eqb _ _ (power-mod n g d at_least p)) in
      record {
        leaves = eqb-true _ _ f.passes;
        early = omega (arith, f.at_most, mod-le p c);
        below = omega (arith, f.at_most);
      }

  -- the entry leaves its remainder, or says that none does
  first-or-absent : (s : ℕ) → (power n g (first n g s) ≡ s) ⊎ (first n g s ≡ 65535)
  unfolding first
  first-or-absent s =
      ⊎_elim (λ t. inl (eqb-true _ _ t)) (λ e. inr e) (least-or_other (λ p. eqb (power n g p) s) absent (2 ^ n) 0)

  pub first_hit : (s : ℕ) → s < 2 ^ n → first n g s < 65535 → power n g (first n g s) ≡ s
  first_hit s b h = ⊎_elim (λ e. e) (λ e. absurd (omega arith)) (first-or-absent s)

  -- an entry that is a position is below the period
  pub first_early : (s : ℕ) → s < 2 ^ n → first n g s < 65535 → first n g s < period n g
  first_early s b h = omega (arith, (first_located (first n g s)).below, ap (first n g) (first_hit s b h))

  pub first-least : (p : ℕ) → first n g (power n g p) ≤ p
  first-least p = (first_located p).early

  -- below the period a power is its own first position
  pub first_below : (p : ℕ) → p < period n g → first n g (power n g p) ≡ p
  first_below p h =
      let f = first_located p in power_apart n g d at_least (first n g (power n g p)) p f.below h f.leaves

  -- from 1 back by one step is the last power before the period
  pub period_from_tables : first n g (step n g 1) + 1 ≡ period n g
  period_from_tables =
      let c = period n g in
      let pos = period_positive n g d at_least in
      let whole : suc (c - 1) ≡ c = omega arith in
      let before : step n g 1 ≡ power n g (c - 1) =
      ap (step n g) (sym (ap (power n g) whole ∙ power-period n g d at_least)) ∙ step-power n g d (c - 1) in
      omega (arith, ap (first n g) before, first_below (c - 1) (omega arith))

  -- degrees for which an entry is wide enough: no position is as great as the entry for none
  module _ (at_most : n ≤ entry_bits) where
    pub period_narrow : period n g ≤ 65535
    period_narrow = omega (arith, period_lt n g d at_least, pow_mono {i = n} {j = entry_bits} at_most)

    pub first_present : (s p : ℕ) → power n g p ≡ s → first n g s < 65535
    first_present s p e = omega (arith, (first_located p).below, ap (first n g) e, period_narrow)

    pub first_none : (s : ℕ) → s < 2 ^ n → (first n g s ≡ 65535) ↔ ((p : ℕ) → power n g p ≡ s → ⊥)
    first_none s b = (
      (λ e p h. omega (arith, first_present s p h)),
      (λ none. ⊎_elim (λ e. absurd (none (first n g s) e)) (λ e. e) (first-or-absent s)),
    )

    pub first_zero : first n g 0 ≡ 65535
    first_zero = (first_none 0 (pow_pos n)).1 (λ p e. omega (arith, power_nonzero n g d at_least p))
