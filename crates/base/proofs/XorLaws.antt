-- XOR is associative and cancels, and `xor-ac` sorts any sum; with a power of two it changes one bit. `lib.Bits` has the rest.
use mathlib.Core.Path.{◌≡◌, refl, sym, ap, ap₂, ◌∙◌}
use mathlib.Core.Logic.{◌≢◌}
use Prim.Native.Nat.{ℕ, zero, suc, ◌+◌, ◌-◌, ◌*◌, ◌/◌, ◌%◌, ◌^◌, ◌<◌}
use native.Mathlib.Omega.{arith}
use native.Mathlib.Nat.{div-eq_of_lt}
use lib.Arith.{bin_ind}
use lib.Bits.{bit_xor, bit_and, differ, xor_step, xor_comm, xor_self, xor_zero_l, xor_zero_r, xor_add_and, and_high, xor_shr}
use lib.Pow.{pow-lt, pow-add, shl-shr}
use Rattle.base.proofs.Cases.{by_order}

-- a digit is 0 or 1
digit_assoc : (x y z : ℕ) → x < 2 → y < 2 → z < 2 → differ (differ x y) z ≡ differ x (differ y z)
digit_assoc zero y z hx hy hz = refl
digit_assoc (suc zero) zero z hx hy hz = refl
digit_assoc (suc zero) (suc zero) zero hx hy hz = refl
digit_assoc (suc zero) (suc zero) (suc zero) hx hy hz = refl
digit_assoc (suc zero) (suc zero) (suc (suc z)) hx hy hz = absurd (omega arith)
digit_assoc (suc zero) (suc (suc y)) z hx hy hz = absurd (omega arith)
digit_assoc (suc (suc x)) y z hx hy hz = absurd (omega arith)

pub differ_lt : (x y : ℕ) → x < 2 → y < 2 → differ x y < 2
differ_lt zero y hx hy = hy
differ_lt (suc zero) zero hx hy = hx
differ_lt (suc zero) (suc zero) hx hy = omega arith
differ_lt (suc zero) (suc (suc y)) hx hy = absurd (omega arith)
differ_lt (suc (suc x)) y hx hy = absurd (omega arith)

pub mod_two_lt : (a : ℕ) → a % 2 < 2
mod_two_lt a = omega arith

pub xor_half : (a b : ℕ) → bit_xor a b / 2 ≡ bit_xor (a / 2) (b / 2)
xor_half a b = omega (arith, xor_step a b, differ_lt (a % 2) (b % 2) (mod_two_lt a) (mod_two_lt b))

pub xor_low : (a b : ℕ) → bit_xor a b % 2 ≡ differ (a % 2) (b % 2)
xor_low a b = omega (arith, xor_step a b, differ_lt (a % 2) (b % 2) (mod_two_lt a) (mod_two_lt b))

-- a digit of the sum, at any place
pub xor_bit : (a b p : ℕ) → bit_xor a b / 2 ^ p % 2 ≡ differ (a / 2 ^ p % 2) (b / 2 ^ p % 2)
xor_bit a b p = ap (λ (x : ℕ). x % 2) (xor_shr a b p) ∙ xor_low (a / 2 ^ p) (b / 2 ^ p)

pub xor_assoc : (a b c : ℕ) → bit_xor (bit_xor a b) c ≡ bit_xor a (bit_xor b c)
xor_assoc a =
    bin_ind (λ (n : ℕ). (b c : ℕ) → bit_xor (bit_xor n b) c ≡ bit_xor n (bit_xor b c))
    (λ b c. simp xor_zero_l)
    (λ n ih b c.
    xor_step (bit_xor n b) c
    ∙ ap₂ (λ (x y : ℕ). x * 2 + y)
    (ap (λ (x : ℕ). bit_xor x (c / 2)) (xor_half n b) ∙ ih (b / 2) (c / 2) ∙ ap (bit_xor (n / 2)) (sym (xor_half b c)))
    (ap (λ (x : ℕ). differ x (c % 2)) (xor_low n b) ∙ digit_assoc (n % 2) (b % 2) (c % 2) (mod_two_lt n) (mod_two_lt b) (mod_two_lt c) ∙ ap (differ (n % 2)) (sym (xor_low b c)))
    ∙ sym (xor_step n (bit_xor b c)))
    a

pub xor_left_comm : (a b c : ℕ) → bit_xor a (bit_xor b c) ≡ bit_xor b (bit_xor a c)
xor_left_comm a b c = sym (xor_assoc a b c) ∙ ap (λ (x : ℕ). bit_xor x c) (xor_comm a b) ∙ xor_assoc b a c

pub xor_cancel : (a b : ℕ) → bit_xor a (bit_xor a b) ≡ b
xor_cancel a b = sym (xor_assoc a a b) ∙ ap (λ (x : ℕ). bit_xor x b) (xor_self a) ∙ xor_zero_l b

pub ruleset xor-ac = (xor_assoc, xor_comm, xor_left_comm, xor_self, xor_cancel, xor_zero_l, xor_zero_r)

-- only equal numbers cancel to 0
pub xor_zero_equal : (a b : ℕ) → bit_xor a b ≡ 0 → a ≡ b
xor_zero_equal a b e = sym (xor_zero_r a) ∙ ap (bit_xor a) (sym e) ∙ xor_cancel a b

-- ---- one bit of a number ----

digit_change : (x y d w : ℕ) → d < 2 → x + d * w * 2 ≡ y + w → x + d * w ≡ y + (1 - d) * w
digit_change x y zero w h e = omega arith
digit_change x y (suc zero) w h e = omega arith
digit_change x y (suc (suc d)) w h e = absurd (omega arith)

and-power : (b j : ℕ) → bit_and b (2 ^ j) ≡ b / 2 ^ j % 2 * 2 ^ j
and-power b j =
    let e : 2 ^ (1 + j) - 2 ^ j ≡ 2 ^ j = omega (arith, pow-add 2 1 j) in
    sym (ap (bit_and b) e) ∙ and_high b 1 j

-- flipped, it takes its power away or adds it
pub xor-power : (b j : ℕ) → bit_xor b (2 ^ j) + b / 2 ^ j % 2 * 2 ^ j ≡ b + (1 - b / 2 ^ j % 2) * 2 ^ j
xor-power b j = digit_change _ b (b / 2 ^ j % 2) (2 ^ j) (mod_two_lt (b / 2 ^ j)) (rw (← and-power b j) (xor_add_and b (2 ^ j)))

power_even : (j k : ℕ) → j ≢ k → 2 ^ j / 2 ^ k % 2 ≡ 0
power_even j k h =
    by_order j k (λ l. rw (div-eq_of_lt (pow-lt l)) refl)
    (λ g.
    let e : j ≡ suc (j - k - 1) + k = omega arith in
    let d : 2 ^ j / 2 ^ k ≡ 2 ^ suc (j - k - 1) = ap (λ (x : ℕ). 2 ^ x / 2 ^ k) e ∙ ap (λ (x : ℕ). x / 2 ^ k) (pow-add 2 (suc (j - k - 1)) k) ∙ shl-shr (2 ^ suc (j - k - 1)) k in
    rw d (omega arith))

differ_zero : (d : ℕ) → differ d 0 ≡ d
differ_zero zero = refl
differ_zero (suc d) = refl

-- and no other bit changes
pub xor_other : (b j k : ℕ) → j ≢ k → bit_xor b (2 ^ j) / 2 ^ k % 2 ≡ b / 2 ^ k % 2
xor_other b j k h =
    xor_bit b (2 ^ j) k
    ∙ ap (differ (b / 2 ^ k % 2)) (power_even j k h)
    ∙ differ_zero (b / 2 ^ k % 2)
