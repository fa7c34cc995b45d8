-- Multiplying by x can be undone, since the divisor is odd: `back` gives the remainder that times x leaves s.
use mathlib.Core.Path.{◌≡◌, sym, ap, ap₂, ◌∙◌}
use Prim.Native.Nat.{ℕ, suc, ◌*◌, ◌/◌, ◌%◌, ◌^◌, ◌<◌, ◌≤◌}
use native.Mathlib.Omega.{arith}
use native.Mathlib.Nat.{zero-mul, one-mul, div-eq_of_lt, div-eq_of_lt-le, le-div_iff_mul-le}
use lib.Pow.{pow_pos}
use lib.Bits.{bit_xor, differ, xor_zero_l, xor_zero_r, xor_lt, xor_shr}
use Rattle.base.proofs.Cases.{by_order, by_parity}
use Rattle.base.proofs.XorLaws.{xor_half, xor_low, xor-ac}
use Rattle.poly.specs.Polynomial.{rem, reduce}
use Rattle.poly.specs.Fit.{Divisor}
use Rattle.poly.proofs.DivisionLaws.{reduce_low, reduce_high, reduce_lt, rem_double, rem_small}

-- half of s, with the generator added first where s is odd
unfoldable pub back : ℕ → ℕ → ℕ
back g s = bit_xor (s / 2) (s % 2 * (g / 2))

pub back_even : (g s : ℕ) → s % 2 ≡ 0 → back g s ≡ s / 2
unfolding back
back_even g s e = simp (e, zero-mul, xor_zero_r)

pub back_odd : (g s : ℕ) → s % 2 ≡ 1 → back g s ≡ bit_xor s g / 2
unfolding back
back_odd g s o = simp (o, one-mul) (sym (xor_half s g))

module _ (n g : ℕ) (d : Divisor n g) where
  -- x times a remainder, as a remainder
  pub rem_twice : (t : ℕ) → t < 2 ^ n → rem n g (t * 2) ≡ reduce n g (t * 2)
  rem_twice t h = rem_double n g d.low d.high t ∙ ap (λ (x : ℕ). reduce n g (x * 2)) (rem_small n g t h)

  pub twice_lt : (t : ℕ) → t < 2 ^ n → reduce n g (t * 2) < 2 ^ n
  twice_lt t h = reduce_lt n g d.low d.high (t * 2) (omega arith)

  -- the generator has the term x^n, and a remainder has not
  xor_high : (s : ℕ) → s < 2 ^ n → (2 ^ n ≤ bit_xor s g) × (bit_xor s g < 2 ^ suc n)
  xor_high s h =
      let one : bit_xor s g / 2 ^ n ≡ 1 =
      xor_shr s g n
      ∙ ap₂ bit_xor (div-eq_of_lt h) (div-eq_of_lt-le (2 ^ n) (omega (arith, d.low)) (omega (arith, d.high)))
      ∙ xor_zero_l 1 in
      let most : 1 * 2 ^ n ≤ bit_xor s g = (le-div_iff_mul-le (pow_pos n)).0 (omega arith) in
      (omega arith, xor_lt (suc n) s g (omega arith) d.high)

  pub back_lt : (s : ℕ) → s < 2 ^ n → back g s < 2 ^ n
  back_lt s h =
      by_parity s (λ e. omega (arith, back_even g s e))
      (λ o. omega (arith, back_odd g s o, (xor_high s h).1))

  pub back_twice : (t : ℕ) → t < 2 ^ n → back g (reduce n g (t * 2)) ≡ t
  back_twice t h =
      by_order (t * 2) (2 ^ n)
      (λ l. ap (back g) (reduce_low n g (t * 2) l) ∙ back_even g (t * 2) (omega arith) ∙ omega arith)
      (λ l.
      let r = reduce_high n g (t * 2) l (omega arith) in
      let even : t * 2 % 2 ≡ 0 = omega arith in
      let odd : bit_xor g (t * 2) % 2 ≡ 1 = xor_low g (t * 2) ∙ ap₂ differ d.odd even in
      let whole : bit_xor (bit_xor g (t * 2)) g ≡ t * 2 = simp xor-ac in
      ap (back g) r ∙ back_odd g (bit_xor g (t * 2)) odd ∙ ap (λ (x : ℕ). x / 2) whole ∙ omega arith)

  twice_back : (s : ℕ) → s < 2 ^ n → reduce n g (back g s * 2) ≡ s
  twice_back s h =
      by_parity s
      (λ e.
      let whole : back g s * 2 ≡ s = omega (arith, back_even g s e) in
      ap (reduce n g) whole ∙ reduce_low n g s h)
      (λ o.
      let even : bit_xor s g % 2 ≡ 0 = xor_low s g ∙ ap₂ differ o d.odd in
      let whole : back g s * 2 ≡ bit_xor s g = omega (arith, back_odd g s o) in
      ap (reduce n g) whole ∙ reduce_high n g (bit_xor s g) (xor_high s h).0 (xor_high s h).1 ∙ simp xor-ac)

  pub back_leaves : (s : ℕ) → s < 2 ^ n → rem n g (back g s * 2) ≡ s
  back_leaves s h = rem_twice (back g s) (back_lt s h) ∙ twice_back s h
