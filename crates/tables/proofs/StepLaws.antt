-- Multiplying by x can be undone, since the generator is odd: every remainder is x times exactly one remainder, its step.
use mathlib.Core.Path.{◌≡◌, sym, ap, ◌∙◌}
use Prim.Native.Nat.{ℕ, ◌*◌, ◌/◌, ◌%◌, ◌^◌, ◌<◌}
use native.Mathlib.Omega.{arith}
use borrow.Author.Tests.{eqb-true, eq-eqb}
use lib.Dec.{eqb}
use lib.Bits.{bit_xor}
use Rattle.poly.specs.Polynomial.{rem, reduce}
use Rattle.poly.specs.Fit.{Divisor}
use Rattle.poly.proofs.BackLaws.{back, back_even, back_odd, rem_twice, twice_lt, back_lt, back_twice, back_leaves}
use Rattle.tables.specs.Tables.{step}
use Rattle.tables.proofs.LeastLaws.{least-found}

module _ (n g : ℕ) (d : Divisor n g) where
  step_back : (s : ℕ) → s < 2 ^ n → step n g s ≡ back g s
  unfolding step
  step_back s h =
      let low-back = back_lt n g d s h in
      let f = least-found (λ t. eqb (rem n g (t * 2)) s) 0 (2 ^ n) 0 (back g s) (omega arith) (omega (arith, low-back)) (eq-eqb _ _ (back_leaves n g d s h)) in
      let low : step n g s < 2 ^ n = omega (arith, f.at_most, low-back) in
      let found : rem n g (step n g s * 2) ≡ s = eqb-true _ _ f.passes in
      sym (back_twice n g d (step n g s) low) ∙ ap (back g) (sym (rem_twice n g d (step n g s) low) ∙ found)

  -- half of an even remainder; of an odd one, half of its sum with the generator
  pub step_is : (s : ℕ) → s < 2 ^ n → (s % 2 ≡ 0 → step n g s ≡ s / 2) × (s % 2 ≡ 1 → step n g s ≡ bit_xor s g / 2)
  step_is s h = ((λ e. step_back s h ∙ back_even g s e), (λ o. step_back s h ∙ back_odd g s o))

  -- the same without a choice, as the code has it
  pub step_halves : (s : ℕ) → s < 2 ^ n → step n g s ≡ bit_xor (s / 2) (s % 2 * (g / 2))
  unfolding back
  step_halves s h = step_back s h

  -- the step of a remainder is the only one that times x leaves it
  pub record Inverts (s t : ℕ) : Type 0 where
    pub below : t < 2 ^ n
    pub leaves : rem n g (t * 2) ≡ s
    pub only : (u : ℕ) → u < 2 ^ n → rem n g (u * 2) ≡ s → u ≡ t

  pub step_inverts : (s : ℕ) → s < 2 ^ n → Inverts s (step n g s)
  step_inverts s h = rw (step_back s h) (record {
    below = back_lt n g d s h;
    leaves = back_leaves n g d s h;
    only = λ u l e. sym (back_twice n g d u l) ∙ ap (back g) (sym (rem_twice n g d u l) ∙ e);
  })

  -- the step of x times a remainder is that remainder
  pub step_twice : (t : ℕ) → t < 2 ^ n → step n g (reduce n g (t * 2)) ≡ t
  step_twice t h = step_back (reduce n g (t * 2)) (twice_lt n g d t h) ∙ back_twice n g d t h
