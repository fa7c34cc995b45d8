-- The degree is the place of the highest one, and the only number with that property.
use mathlib.Core.Path.{◌≡◌, ◌∙◌}
use Prim.Native.Nat.{ℕ, zero, suc, ◌-◌, ◌/◌, ◌^◌, ◌<◌, ◌≤◌}
use native.Mathlib.Omega.{arith}
use borrow.Author.Tests.{ltb-true, ltb-false}
use lib.Dec.{ltb}
use lib.Pow.{pow_mono}
use lib.Count.{count_leading_zeros, leading_top}
use Rattle.base.proofs.Cases.{by_order, by_test}
use Rattle.poly.specs.Polynomial.{degree, degree_in}

degree_within : (k a : ℕ) → a ≤ k → 0 < a → (2 ^ degree_in k a ≤ a) × (a < 2 ^ suc (degree_in k a))
unfolding degree_in
degree_within zero a l h = absurd (omega arith)
degree_within (suc k) a l h =
    by_test (ltb a 2) (λ e. rw (e, degree_in) (omega (arith, ltb-true)))
    (λ e.
    let m : 2 ≤ a = ltb-false a 2 e in
    let ih = degree_within k (a / 2) (omega arith) (omega arith) in
    rw (e, degree_in) (omega (arith, ih.0, ih.1)))

pub degree_of : (a : ℕ) → 0 < a → (2 ^ degree a ≤ a) × (a < 2 ^ suc (degree a))
unfolding degree
degree_of a h = degree_within a a (omega arith) h

-- two exponents around one number are equal
pub degree_unique : (a m n : ℕ) → 2 ^ m ≤ a → a < 2 ^ suc m → 2 ^ n ≤ a → a < 2 ^ suc n → m ≡ n
degree_unique a m n lm hm ln hn =
    by_order m n (λ h. absurd (omega (arith, pow_mono {i = suc m} {j = n} h)))
    (λ h. by_order n m (λ k. absurd (omega (arith, pow_mono {i = suc n} {j = m} k))) (λ k. omega arith))

-- the degree from leading zeros
pub degree-leading : (a : ℕ) → 0 < a → a < 2 ^ 64 → 63 - count_leading_zeros 64 a ≡ degree a
degree-leading a p h =
    let t = leading_top 64 a p h in
    let e : 63 - count_leading_zeros 64 a ≡ t.0 = omega (arith, t.1) in
    e ∙ degree_unique a t.0 (degree a) t.2 t.3 (degree_of a p).0 (degree_of a p).1
