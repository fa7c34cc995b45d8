-- The product of binary polynomials: its equations, and sums by their lowest digits.
use mathlib.Core.Path.{◌≡◌, refl, ap₂, ◌∙◌}
use Prim.Native.Nat.{ℕ, zero, suc, ◌+◌, ◌*◌, ◌/◌, ◌%◌, ◌<◌, ◌≤◌}
use native.Mathlib.Omega.{arith}
use native.Mathlib.Nat.{zero-mul, one-mul}
use lib.Bits.{bit_xor, differ, xor_step, xor_zero_l, xor_zero_r, xor_self}
use Rattle.poly.specs.Polynomial.{times}
use Rattle.poly.proofs.FoldLaws.{down_step, down_zero}

pub times_zero : (b : ℕ) → times 0 b ≡ 0
unfolding times
times_zero b = down_zero _

pub times-step : (a b : ℕ) → times a b ≡ bit_xor (times (a / 2) b * 2) (a % 2 * b)
unfolding times
times-step a b = down_step (λ p d. bit_xor (p * 2) (d * b)) (simp zero-mul) a

-- a digit times a number distributes over the sum of digits
pub digit_sum : (d e b : ℕ) → d < 2 → e < 2 → differ d e * b ≡ bit_xor (d * b) (e * b)
digit_sum zero e b hd he = simp (zero-mul, xor_zero_l)
digit_sum (suc zero) zero b hd he = simp (zero-mul, xor_zero_r)
digit_sum (suc zero) (suc zero) b hd he = simp (zero-mul, xor_self)
digit_sum (suc zero) (suc (suc e)) b hd he = absurd (omega arith)
digit_sum (suc (suc d)) e b hd he = absurd (omega arith)

pub xor_double : (a b : ℕ) → bit_xor (a * 2) (b * 2) ≡ bit_xor a b * 2
xor_double a b =
    let ha : a * 2 / 2 ≡ a = omega arith in
    let hb : b * 2 / 2 ≡ b = omega arith in
    let la : a * 2 % 2 ≡ 0 = omega arith in
    let lb : b * 2 % 2 ≡ 0 = omega arith in
    xor_step (a * 2) (b * 2) ∙ ap₂ (λ (x y : ℕ). x * 2 + y) (ap₂ bit_xor ha hb) (ap₂ differ la lb) ∙ omega arith

-- multiplying by x
pub xor_digit : (a d : ℕ) → d < 2 → bit_xor (a * 2) d ≡ a * 2 + d
xor_digit a d h =
    let ha : a * 2 / 2 ≡ a = omega arith in
    let hd : d / 2 ≡ 0 = omega arith in
    let la : a * 2 % 2 ≡ 0 = omega arith in
    let ld : d % 2 ≡ d = omega arith in
    xor_step (a * 2) d ∙ ap₂ (λ (x y : ℕ). x * 2 + y) (ap₂ bit_xor ha hd ∙ xor_zero_r a) (ap₂ differ la ld)

-- the sum of two numbers, by their lowest digits
pub xor_join : (a b d e : ℕ) → d < 2 → e < 2 → bit_xor (a * 2 + d) (b * 2 + e) ≡ bit_xor a b * 2 + differ d e
xor_join a b d e hd he =
    let ha : (a * 2 + d) / 2 ≡ a = omega arith in
    let hb : (b * 2 + e) / 2 ≡ b = omega arith in
    let la : (a * 2 + d) % 2 ≡ d = omega arith in
    let lb : (b * 2 + e) % 2 ≡ e = omega arith in
    xor_step (a * 2 + d) (b * 2 + e) ∙ ap₂ (λ (x y : ℕ). x * 2 + y) (ap₂ bit_xor ha hb) (ap₂ differ la lb)

pub digit_xor : (d e : ℕ) → d < 2 → e < 2 → bit_xor d e ≡ differ d e
digit_xor zero e hd he = xor_zero_l e
digit_xor (suc zero) zero hd he = refl
digit_xor (suc zero) (suc zero) hd he = refl
digit_xor (suc zero) (suc (suc e)) hd he = absurd (omega arith)
digit_xor (suc (suc d)) e hd he = absurd (omega arith)

pub digit_times : (e h : ℕ) → e < 2 → e * h ≤ h
digit_times zero h l = simp zero-mul (omega arith)
digit_times (suc zero) h l = simp one-mul (omega arith)
digit_times (suc (suc e)) h l = absurd (omega arith)
