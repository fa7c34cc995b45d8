-- The fold over binary digits in one step, for any function that keeps 0.
use mathlib.Core.Path.{◌≡◌, refl, sym, ap, ◌∙◌}
use Prim.Native.Nat.{ℕ, zero, suc, ◌/◌, ◌%◌, ◌≤◌}
use native.Mathlib.Omega.{arith}
use native.Mathlib.Decide.{le_ind}
use native.Mathlib.Nat.{not-suc-le-zero}
use lib.Arith.{half_le}
use Rattle.poly.specs.Polynomial.{down, down_in}

module _ (f : ℕ → ℕ → ℕ) where
  more : (k a : ℕ) → a ≤ k → down_in f (suc k) a ≡ down_in f k a
  unfolding down_in
  more zero zero h = refl
  more zero (suc a) h = absurd (not-suc-le-zero h)
  more (suc k) zero h = refl
  more (suc k) (suc a) h = ap (λ (x : ℕ). f x (suc a % 2)) (more k (suc a / 2) (half_le h))

  enough : (k a : ℕ) → a ≤ k → down_in f k a ≡ down f a
  unfolding down
  enough k a h = le_ind (λ (m : ℕ). down_in f m a ≡ down_in f a a) refl (λ m l e. more m a l ∙ e) k h

  pub down_zero : down f 0 ≡ 0
  unfolding down down_in
  down_zero = refl

  pub down_step : f 0 0 ≡ 0 → (a : ℕ) → down f a ≡ f (down f (a / 2)) (a % 2)
  unfolding down down_in
  down_step z zero = sym z
  down_step z (suc a) = ap (λ (x : ℕ). f x (suc a % 2)) (enough a (suc a / 2) (half_le (omega arith)))
