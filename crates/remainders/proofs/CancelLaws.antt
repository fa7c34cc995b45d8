-- One step of the division by the generator, at any height.
use mathlib.Core.Path.{◌≡◌, sym, ap, ap₂, ◌∙◌}
use Prim.Native.Nat.{ℕ, suc, ◌+◌, ◌*◌, ◌/◌, ◌%◌, ◌^◌, ◌<◌, ◌≤◌}
use native.Mathlib.Omega.{arith}
use native.Mathlib.Nat.{add-zero, mod-lt, div-eq_of_lt, div-lt_iff_lt-mul, le-div_iff_mul-le}
use lib.Pow.{pow-add, pow_pos, split, shl_exact}
use lib.Bits.{bit_xor, xor_block, xor_zero_r, xor_comm}
use lib.Arith.{digits_lt}
use Rattle.base.proofs.Cases.{by_order}
use Rattle.poly.specs.Polynomial.{rem, reduce}
use Rattle.poly.specs.Fit.{Divisor}
use Rattle.poly.specs.Generators.{greatest_degree}
use Rattle.poly.proofs.DivisionLaws.{rem-xor, rem_self, rem_shift_zero, reduce_high, reduce_lt}
use Rattle.remainders.specs.Cancelling.{Cancelled}

-- what does not shift out is at least the power
high_part : (v k : ℕ) → (v / 2 ^ k ≡ 0 → ⊥) → 2 ^ k ≤ v
high_part v k h = by_order v (2 ^ k) (λ l. absurd (h (div-eq_of_lt l))) (λ l. l)

module _ (n g : ℕ) (d : Divisor n g) where
  -- the term x^(n + j) is there: v less x^j times g
  cancel_high : (v j : ℕ) → v < 2 ^ (n + suc j) → 2 ^ (n + j) ≤ v → Cancelled n g v j (bit_xor v (g * 2 ^ j))
  cancel_high v j h l =
      let top : ℕ = v / 2 ^ j in
      let rest_lt : v % 2 ^ j < 2 ^ j = mod-lt v (pow_pos j) in
      let powers : 2 ^ (n + j) ≡ 2 ^ n * 2 ^ j = pow-add 2 n j in
      let places : n + suc j ≡ suc n + j = omega arith in
      let double : 2 ^ (n + suc j) ≡ 2 ^ suc n * 2 ^ j = ap (λ (x : ℕ). 2 ^ x) places ∙ pow-add 2 (suc n) j in
      let top_lt : top < 2 ^ suc n = (div-lt_iff_lt-mul (pow_pos j)).1 (omega (arith, double)) in
      let top-le : 2 ^ n ≤ top = (le-div_iff_mul-le (pow_pos j)).1 (omega (arith, powers)) in
      let less : bit_xor top g ≡ reduce n g top = xor_comm top g ∙ sym (reduce_high n g top top-le top_lt) in
      let sum : bit_xor v (g * 2 ^ j) ≡ reduce n g top * 2 ^ j + v % 2 ^ j =
      ap₂ bit_xor (sym (split v j)) (sym (add-zero (g * 2 ^ j)))
      ∙ xor_block j top g (v % 2 ^ j) 0 rest_lt (pow_pos j)
      ∙ ap₂ (λ (x y : ℕ). x * 2 ^ j + y) less (xor_zero_r (v % 2 ^ j)) in
      record {
        same =
            rem-xor n g d.low d.high v (g * 2 ^ j)
            ∙ ap (bit_xor (rem n g v)) (rem_shift_zero n g d.low d.high j g (rem_self n g d.low d.high))
            ∙ xor_zero_r (rem n g v);
        below = rw (sum, powers) (digits_lt (reduce_lt n g d.low d.high top top_lt) rest_lt);
      }

  -- the same as the code computes it
  pub cancel_there : (v j : ℕ) → n ≤ greatest_degree → j < 8 → v < 2 ^ (n + suc j) → (v / 2 ^ (n + j) ≡ 0 → ⊥)
      → Cancelled n g v j (bit_xor v (g * 2 ^ j % 18446744073709551616))
  cancel_there v j most small h there = rw (shl_exact (suc n) j 64 d.high (omega arith)) (cancel_high v j h (high_part v (n + j) there))
