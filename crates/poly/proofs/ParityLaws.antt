-- Numbers of ones, modulo 2: a sum has as many as its terms together; and a remainder has as many as what was divided, where the
-- divisor has an even number.
use mathlib.Core.Path.{◌≡◌, refl, ap, ap₂, ◌∙◌}
use mathlib.Core.List.{List, [], ◌∷◌}
use Prim.Native.Nat.{ℕ, zero, suc, ◌+◌, ◌*◌, ◌/◌, ◌%◌, ◌^◌, ◌<◌, ◌≤◌}
use native.Mathlib.Omega.{arith}
use lib.Arith.{bin_ind}
use lib.Bits.{bit_xor, differ, xor_zero_l}
use lib.Count.{ones, ones_step, ones_cat}
use lib.ListN.{length}
use lib.Pow.{pow_pos}
use Rattle.base.proofs.Cases.{by_order}
use Rattle.base.proofs.XorLaws.{mod_two_lt, xor_half, xor_low}
use Rattle.poly.specs.Polynomial.{rem, reduce, powers}
use Rattle.poly.proofs.DivisionLaws.{reduce_low, reduce_high, rem_zero, rem-step, rem_lt}

differ_parity : (x y : ℕ) → x < 2 → y < 2 → differ x y % 2 ≡ (x + y) % 2
differ_parity zero y hx hy = omega arith
differ_parity (suc zero) zero hx hy = refl
differ_parity (suc zero) (suc zero) hx hy = refl
differ_parity (suc zero) (suc (suc y)) hx hy = absurd (omega arith)
differ_parity (suc (suc x)) y hx hy = absurd (omega arith)

pub ones_zero : ones 0 ≡ 0
unfolding ones
ones_zero = refl

-- two sums, each of two parts
parity_join : (d u x y v w : ℕ) → d % 2 ≡ (x + y) % 2 → u % 2 ≡ (v + w) % 2 → (d + u) % 2 ≡ ((x + v) + (y + w)) % 2
parity_join d u x y v w h k = omega arith

pub parity_xor : (a b : ℕ) → ones (bit_xor a b) % 2 ≡ (ones a + ones b) % 2
parity_xor =
    bin_ind (λ (a : ℕ). (b : ℕ) → ones (bit_xor a b) % 2 ≡ (ones a + ones b) % 2)
    (λ b. rw (xor_zero_l b) (omega (arith, ones_zero)))
    (λ a ih b.
    rw (ones_step (bit_xor a b), ones_step a, ones_step b)
    (parity_join (bit_xor a b % 2) (ones (bit_xor a b / 2)) (a % 2) (b % 2) (ones (a / 2)) (ones (b / 2))
    (ap (λ (x : ℕ). x % 2) (xor_low a b) ∙ differ_parity (a % 2) (b % 2) (mod_two_lt a) (mod_two_lt b))
    (ap (λ (x : ℕ). ones x % 2) (xor_half a b) ∙ ih (b / 2))))

-- a digit behind the others
ones-append : (a d : ℕ) → d < 2 → ones (a * 2 + d) ≡ d + ones a
ones-append a d h =
    let half : (a * 2 + d) / 2 ≡ a = omega arith in
    let digit : (a * 2 + d) % 2 ≡ d = omega arith in
    ones_step (a * 2 + d) ∙ ap₂ (λ (x y : ℕ). x + ones y) digit half

-- a power of x
pub ones_power : (p : ℕ) → ones (2 ^ p) ≡ 1
unfolding ones
ones_power p =
    let e : 2 ^ p ≡ 1 * 2 ^ p + 0 = omega arith in
    ap ones e ∙ ones_cat p 1 0 (pow_pos p)

-- the sum of powers of x at so many places, which need not differ
pub parity_powers : (ps : List ℕ) → ones (powers ps) % 2 ≡ length ps % 2
unfolding powers
parity_powers [] = ap (λ (x : ℕ). x % 2) ones_zero
parity_powers (p ∷ ps) = omega (arith, parity_xor (2 ^ p) (powers ps), ones_power p, parity_powers ps)

module _ (n g : ℕ) (low : 2 ^ n ≤ g) (high : g < 2 ^ suc n) (even : ones g % 2 ≡ 0) where
  parity_reduce : (v : ℕ) → v < 2 ^ suc n → ones (reduce n g v) % 2 ≡ ones v % 2
  parity_reduce v h =
      by_order v (2 ^ n) (λ l. rw (reduce_low n g v l) refl)
      (λ l. rw (reduce_high n g v l h) (omega (arith, even, parity_xor g v)))

  pub parity_rem : (a : ℕ) → ones (rem n g a) % 2 ≡ ones a % 2
  parity_rem =
      bin_ind (λ (a : ℕ). ones (rem n g a) % 2 ≡ ones a % 2) (rw (rem_zero n g) refl)
      (λ a ih.
      let v : ℕ = rem n g (a / 2) * 2 + a % 2 in
      rw (rem-step n g a)
      (omega (
        arith,
        ih,
        parity_reduce v (omega (arith, rem_lt n g low high (a / 2))),
        ones-append (rem n g (a / 2)) (a % 2) (mod_two_lt a),
        ones_step a,
      )))
