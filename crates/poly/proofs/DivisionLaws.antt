-- Division of binary polynomials by g of degree n, for every n.
use mathlib.Core.Path.{◌≡◌, refl, sym, ap, ap₂, ◌∙◌}
use Prim.Native.Nat.{ℕ, zero, suc, ◌+◌, ◌-◌, ◌*◌, ◌/◌, ◌%◌, ◌^◌, ◌<◌, ◌≤◌}
use native.Mathlib.Omega.{arith}
use native.Mathlib.Nat.{zero-mul, one-mul, mul_assoc, pow-suc, zero-add, add-zero, div-eq_of_lt, div-eq_of_lt-le, div-lt_iff_lt-mul}
use lib.Arith.{bin_ind}
use lib.Pow.{pow_pos}
use lib.Bits.{bit_xor, xor_zero_l, xor_self, xor_shr, xor_block, xor_shifted, xor_lt}
use Rattle.base.proofs.Cases.{by_order}
use Rattle.base.proofs.XorLaws.{mod_two_lt, xor_assoc, xor_half, xor_low, xor-ac}
use Rattle.poly.specs.Polynomial.{times, rem, reduce}
use Rattle.poly.proofs.FoldLaws.{down_step, down_zero}
use Rattle.poly.proofs.ProductLaws.{times-step, times_zero, digit_sum, digit_xor, xor_double, xor_digit, xor_join}

pub reduce_is : (n g v : ℕ) → reduce n g v ≡ bit_xor (v / 2 ^ n * g) v
unfolding reduce
reduce_is n g v = refl

-- a polynomial below 2 ^ n is left as it is
pub reduce_low : (n g v : ℕ) → v < 2 ^ n → reduce n g v ≡ v
unfolding reduce
reduce_low n g v h = simp (div-eq_of_lt h, zero-mul, xor_zero_l)

-- one that has the term x^n loses it
pub reduce_high : (n g v : ℕ) → 2 ^ n ≤ v → v < 2 ^ suc n → reduce n g v ≡ bit_xor g v
unfolding reduce
reduce_high n g v l h =
    let one : v / 2 ^ n ≡ 1 = div-eq_of_lt-le (2 ^ n) (omega arith) (omega arith) in
    simp (one, one-mul)

pub reduce-xor : (n g u v : ℕ) → u < 2 ^ suc n → v < 2 ^ suc n → reduce n g (bit_xor u v) ≡ bit_xor (reduce n g u) (reduce n g v)
unfolding reduce
reduce-xor n g u v hu hv =
    ap (λ (x : ℕ). bit_xor (x * g) (bit_xor u v)) (xor_shr u v n)
    ∙ ap (λ (x : ℕ). bit_xor x (bit_xor u v)) (xor-times (u / 2 ^ n) (v / 2 ^ n) (top_lt u hu) (top_lt v hv))
    ∙ simp xor-ac
  where
    top_lt : (w : ℕ) → w < 2 ^ suc n → w / 2 ^ n < 2
    top_lt w h = (div-lt_iff_lt-mul (pow_pos n)).1 (omega arith)

    xor-times : (d e : ℕ) → d < 2 → e < 2 → bit_xor d e * g ≡ bit_xor (d * g) (e * g)
    xor-times d e hd he = ap (λ (x : ℕ). x * g) (digit_xor d e hd he) ∙ digit_sum d e g hd he

pub rem_zero : (n g : ℕ) → rem n g 0 ≡ 0
unfolding rem
rem_zero n g = down_zero _

-- long division takes one digit at a time
pub rem-step : (n g a : ℕ) → rem n g a ≡ reduce n g (rem n g (a / 2) * 2 + a % 2)
unfolding rem
rem-step n g a = down_step (λ r d. reduce n g (r * 2 + d)) (reduce_low n g 0 (pow_pos n)) a

pub rem-append : (n g a d : ℕ) → d < 2 → rem n g (a * 2 + d) ≡ reduce n g (rem n g a * 2 + d)
rem-append n g a d h =
    let half : (a * 2 + d) / 2 ≡ a = omega arith in
    let digit : (a * 2 + d) % 2 ≡ d = omega arith in
    rem-step n g (a * 2 + d) ∙ ap₂ (λ (x y : ℕ). reduce n g (rem n g x * 2 + y)) half digit

-- what is below 2 ^ n is its own remainder
pub rem_small : (n g a : ℕ) → a < 2 ^ n → rem n g a ≡ a
rem_small n g =
    bin_ind (λ (a : ℕ). a < 2 ^ n → rem n g a ≡ a) (λ h. rem_zero n g)
    (λ a ih h.
    rem-step n g a
    ∙ ap (λ (x : ℕ). reduce n g (x * 2 + a % 2)) (ih (omega arith))
    ∙ ap (reduce n g) (omega arith)
    ∙ reduce_low n g a h)

shift_suc : (a k : ℕ) → a * 2 ^ suc k ≡ a * 2 ^ k * 2
shift_suc a k = ap (λ (x : ℕ). a * x) (pow-suc 2 k) ∙ sym (mul_assoc a (2 ^ k) 2)

-- the divisor has degree n
module _ (n g : ℕ) (low : 2 ^ n ≤ g) (high : g < 2 ^ suc n) where
  pub reduce_lt : (v : ℕ) → v < 2 ^ suc n → reduce n g v < 2 ^ n
  reduce_lt v h =
      by_order v (2 ^ n) (λ l. rw (reduce_low n g v l) l)
      (λ l. rw (reduce_high n g v l h)
      (let gs : g ≡ 1 * 2 ^ n + (g - 2 ^ n) = omega arith in
      let vs : v ≡ 1 * 2 ^ n + (v - 2 ^ n) = omega arith in
      let e : bit_xor g v ≡ bit_xor (g - 2 ^ n) (v - 2 ^ n) =
      ap₂ bit_xor gs vs ∙ xor_block n 1 1 (g - 2 ^ n) (v - 2 ^ n) (omega arith) (omega arith) ∙ simp (zero-mul, zero-add) in
      rw e (xor_lt n (g - 2 ^ n) (v - 2 ^ n) (omega arith) (omega arith))))

  -- the remainder is below 2 ^ n
  pub rem_lt : (a : ℕ) → rem n g a < 2 ^ n
  rem_lt =
      bin_ind (λ (a : ℕ). rem n g a < 2 ^ n) (rw (rem_zero n g) (pow_pos n))
      (λ a ih. rw (rem-step n g a) (reduce_lt (rem n g (a / 2) * 2 + a % 2) (omega arith)))

  -- multiplying by x
  pub rem_double : (a : ℕ) → rem n g (a * 2) ≡ reduce n g (rem n g a * 2)
  rem_double a =
      ap (rem n g) (sym (add-zero (a * 2))) ∙ rem-append n g a 0 (omega arith) ∙ ap (reduce n g) (add-zero (rem n g a * 2))

  -- remainders add
  pub rem-xor : (a b : ℕ) → rem n g (bit_xor a b) ≡ bit_xor (rem n g a) (rem n g b)
  rem-xor =
      bin_ind (λ (a : ℕ). (b : ℕ) → rem n g (bit_xor a b) ≡ bit_xor (rem n g a) (rem n g b))
      (λ b. simp (xor_zero_l, rem_zero))
      (λ a ih b.
      let ra : ℕ = rem n g (a / 2) in
      let rb : ℕ = rem n g (b / 2) in
      rem-step n g (bit_xor a b)
      ∙ ap (reduce n g)
      (ap₂ (λ (x y : ℕ). x * 2 + y) (ap (rem n g) (xor_half a b) ∙ ih (b / 2)) (xor_low a b)
      ∙ sym (xor_join ra rb (a % 2) (b % 2) (omega arith) (omega arith)))
      ∙ reduce-xor n g (ra * 2 + a % 2) (rb * 2 + b % 2) (omega (arith, rem_lt (a / 2))) (omega (arith, rem_lt (b / 2)))
      ∙ ap₂ bit_xor (sym (rem-step n g a)) (sym (rem-step n g b)))

  -- the divisor leaves nothing
  pub rem_self : rem n g g ≡ 0
  rem_self =
      rem-step n g g
      ∙ ap (λ (x : ℕ). reduce n g (x * 2 + g % 2)) (rem_small n g (g / 2) (omega arith))
      ∙ ap (reduce n g) (omega arith)
      ∙ reduce_high n g g low high
      ∙ xor_self g

  pub rem_digit : (d : ℕ) → d < 2 → rem n g (d * g) ≡ 0
  rem_digit zero h = ap (rem n g) (zero-mul g) ∙ rem_zero n g
  rem_digit (suc zero) h = ap (rem n g) (one-mul g) ∙ rem_self
  rem_digit (suc (suc d)) h = absurd (omega arith)

  -- and so does any multiple of it
  pub rem-times : (q : ℕ) → rem n g (times q g) ≡ 0
  rem-times =
      bin_ind (λ (q : ℕ). rem n g (times q g) ≡ 0) (ap (rem n g) (times_zero g) ∙ rem_zero n g)
      (λ q ih.
      ap (rem n g) (times-step q g)
      ∙ rem-xor (times (q / 2) g * 2) (q % 2 * g)
      ∙ ap₂ bit_xor
      (rem_double (times (q / 2) g) ∙ ap (λ (x : ℕ). reduce n g (x * 2)) ih ∙ reduce_low n g 0 (pow_pos n))
      (rem_digit (q % 2) (mod_two_lt q)))

  -- a quotient exists
  pub quotient : (a : ℕ) → (q : ℕ) × (a ≡ bit_xor (times q g) (rem n g a))
  quotient =
      bin_ind (λ (a : ℕ). (q : ℕ) × (a ≡ bit_xor (times q g) (rem n g a)))
      (0, sym (ap₂ bit_xor (times_zero g) (rem_zero n g)))
      (λ a ih. step a ih.0 ih.1)
    where
      step : (a q : ℕ) → a / 2 ≡ bit_xor (times q g) (rem n g (a / 2)) → (q : ℕ) × (a ≡ bit_xor (times q g) (rem n g a))
      step a q e =
          let r : ℕ = rem n g (a / 2) in
          let v : ℕ = r * 2 + a % 2 in
          let t : ℕ = v / 2 ^ n in
          let ht : t < 2 = (div-lt_iff_lt-mul (pow_pos n)).1 (omega (arith, rem_lt (a / 2))) in
          let half : (q * 2 + t) / 2 ≡ q = omega arith in
          let digit : (q * 2 + t) % 2 ≡ t = omega arith in
          let product : times (q * 2 + t) g ≡ bit_xor (times q g * 2) (t * g) =
          times-step (q * 2 + t) g ∙ ap₂ (λ (x y : ℕ). bit_xor (times x g * 2) (y * g)) half digit in
          let split : a ≡ bit_xor (times q g * 2) v =
          (omega arith ∙ ap (λ (x : ℕ). x * 2 + a % 2) e)
          ∙ (sym (xor_digit (bit_xor (times q g) r) (a % 2) (mod_two_lt a))
          ∙ ap (λ (x : ℕ). bit_xor x (a % 2)) (sym (xor_double (times q g) r))
          ∙ xor_assoc (times q g * 2) (r * 2) (a % 2)
          ∙ ap (bit_xor (times q g * 2)) (xor_digit r (a % 2) (mod_two_lt a))) in
          let left : rem n g a ≡ bit_xor (t * g) v = rem-step n g a ∙ reduce_is n g v in
          (q * 2 + t, split ∙ (sym (ap₂ bit_xor product left ∙ simp xor-ac)))

  -- and the remainder is the only one
  pub remainder_unique : (a q r : ℕ) → a ≡ bit_xor (times q g) r → r < 2 ^ n → r ≡ rem n g a
  remainder_unique a q r e h =
      sym (ap (rem n g) e ∙ rem-xor (times q g) r ∙ ap₂ bit_xor (rem-times q) (rem_small n g r h) ∙ xor_zero_l r)

  -- multiplying by x^k
  pub rem_shift : (k a : ℕ) → rem n g (a * 2 ^ k) ≡ rem n g (rem n g a * 2 ^ k)
  rem_shift zero a =
      let e : a * 2 ^ 0 ≡ a = omega arith in
      let f : rem n g a * 2 ^ 0 ≡ rem n g a = omega arith in
      ap (rem n g) e ∙ sym (ap (rem n g) f ∙ rem_small n g (rem n g a) (rem_lt a))
  rem_shift (suc k) a =
      let e : a * 2 ^ suc k ≡ a * 2 ^ k * 2 = shift_suc a k in
      let f : rem n g a * 2 ^ suc k ≡ rem n g a * 2 ^ k * 2 = shift_suc (rem n g a) k in
      ap (rem n g) e
      ∙ rem_double (a * 2 ^ k)
      ∙ ap (λ (x : ℕ). reduce n g (x * 2)) (rem_shift k a)
      ∙ sym (ap (rem n g) f ∙ rem_double (rem n g a * 2 ^ k))

  -- a multiple of the divisor stays one
  pub rem_shift_zero : (k a : ℕ) → rem n g a ≡ 0 → rem n g (a * 2 ^ k) ≡ 0
  rem_shift_zero k a e = rem_shift k a ∙ ap (λ (x : ℕ). rem n g (x * 2 ^ k)) e ∙ ap (rem n g) (zero-mul (2 ^ k)) ∙ rem_zero n g

  -- the remainder stands for what was read so far
  pub rem_block : (k a b : ℕ) → b < 2 ^ k → rem n g (rem n g a * 2 ^ k + b) ≡ rem n g (a * 2 ^ k + b)
  rem_block k a b h =
      ap (rem n g) (sym (xor_shifted (rem n g a) k b h))
      ∙ rem-xor (rem n g a * 2 ^ k) b
      ∙ ap (λ (x : ℕ). bit_xor x (rem n g b)) (sym (rem_shift k a))
      ∙ sym (rem-xor (a * 2 ^ k) b)
      ∙ ap (rem n g) (xor_shifted a k b h)

  -- of a number with n bits behind its top only the top is divided
  pub rem_top : (top b : ℕ) → b < 2 ^ n → rem n g (top * 2 ^ n + b) ≡ bit_xor (rem n g (top * 2 ^ n)) b
  rem_top top b h =
      ap (rem n g) (sym (xor_shifted top n b h)) ∙ rem-xor (top * 2 ^ n) b ∙ ap (bit_xor (rem n g (top * 2 ^ n))) (rem_small n g b h)
