-- Flipping bits of a packet, as sums of polynomials.
use mathlib.Core.Path.{◌≡◌, refl, sym, ap, ap₂, ◌∙◌}
use mathlib.Core.Logic.{◌≢◌}
use mathlib.Core.List.{List, [], ◌∷◌, ◌++◌}
use Prim.Native.Nat.{ℕ, zero, suc, ◌+◌, ◌-◌, ◌*◌, ◌/◌, ◌%◌, ◌^◌, ◌<◌, ◌≤◌}
use native.Mathlib.Omega.{arith}
use native.Mathlib.Numerals.{add-one}
use native.Mathlib.Nat.{add-zero, zero-add, mul_assoc, mul_comm, add-mul, pow-suc}
use lib.Bits.{bit_xor, xor_block, xor_lt, xor_zero_r}
use borrow.Author.Tests.{eqb-true, eqb-false}
use lib.Dec.{eqb}
use lib.ListN.{length, get_or, take, drop, set, length-set, length-drop, drop_of_length-le}
use lib.Pow.{pow-add, pow_pos, pow-lt, shr-shr, high, low, field, mod-mod-pow}
use lib.Arith.{digits_lt}
use lib.Seq.{drop-cons, set_split, set-get_or, get_or-drop, get_or-set_same, get_or-set_other}
use Rattle.base.specs.Lists.{All, none, each}
use Rattle.base.proofs.Cases.{by_test, by_equal}
use Rattle.base.proofs.XorLaws.{xor_assoc, xor_other}
use Rattle.poly.specs.Polynomial.{powers}
use Rattle.packet.specs.Packet.{Bytes, bits, polynomial, polynomial_after, bit_at, flip, flips}

-- ---- the polynomial of a joined packet

pub after_is : (v : ℕ) (s : List ℕ) → polynomial_after v s ≡ v * 256 ^ length s + polynomial s
unfolding polynomial polynomial_after
after_is v [] = omega arith
after_is v (b ∷ s) =
    let e : 256 ^ suc (length s) ≡ 256 ^ length s * 256 = pow-suc 256 (length s) in
    let f : v * 256 ^ suc (length s) ≡ v * 256 * 256 ^ length s =
    ap (λ (x : ℕ). v * x) (e ∙ mul_comm (256 ^ length s) 256) ∙ sym (mul_assoc v 256 (256 ^ length s)) in
    let g : (v * 256 + b) * 256 ^ length s ≡ v * 256 * 256 ^ length s + b * 256 ^ length s = add-mul (v * 256) b (256 ^ length s) in
    let h : polynomial_after (0 * 256 + b) s ≡ b * 256 ^ length s + polynomial_after 0 s = after_is (0 * 256 + b) s ∙ ap (λ (x : ℕ). x * 256 ^ length s + polynomial s) (zero-add b) in
    after_is (v * 256 + b) s ∙ omega (arith, g, f, h)

after_append : (v : ℕ) (s t : List ℕ) → polynomial_after v (s ++ t) ≡ polynomial_after (polynomial_after v s) t
unfolding polynomial_after
after_append v [] t = refl
after_append v (b ∷ s) t = after_append (v * 256 + b) s t

pub polynomial-append : (s t : List ℕ) → polynomial (s ++ t) ≡ polynomial s * 256 ^ length t + polynomial t
polynomial-append s t = unfold polynomial in (after_append 0 s t) ∙ after_is (polynomial s) t

-- a byte between two parts
pub polynomial_around : (s : List ℕ) (b : ℕ) (t : List ℕ) → polynomial (s ++ b ∷ t) ≡ (polynomial s * 256 + b) * 256 ^ length t + polynomial t
unfolding polynomial polynomial_after
polynomial_around s b t = after_append 0 s (b ∷ t) ∙ after_is (polynomial_after 0 s * 256 + b) t

-- bytes are digits in base 256
pub polynomial_lt : (s : List ℕ) → Bytes s → polynomial s < 256 ^ length s
unfolding polynomial polynomial_after
polynomial_lt [] h = omega arith
polynomial_lt (b ∷ s) h =
    let e : polynomial_after (0 * 256 + b) s ≡ b * 256 ^ length s + polynomial s =
    after_is (0 * 256 + b) s ∙ ap (λ (x : ℕ). x * 256 ^ length s + polynomial s) (zero-add b) in
    rw (e, pow-suc 256 (length s), mul_comm (256 ^ length s) 256) (digits_lt (h 0) (polynomial_lt s (λ i. h (suc i))))

pub byte_power : (k : ℕ) → 256 ^ k ≡ 2 ^ (8 * k)
byte_power zero = refl
byte_power (suc k) =
    let e : 8 * suc k ≡ 8 * k + 8 = omega arith in
    pow-suc 256 k ∙ ap (λ (x : ℕ). x * 256) (byte_power k) ∙ sym (ap (λ (x : ℕ). 2 ^ x) e ∙ pow-add 2 (8 * k) 8)

-- a packet of L bits is below x^L
pub polynomial_below : (s : List ℕ) → Bytes s → polynomial s < 2 ^ bits s
polynomial_below s b = rw (← byte_power (length s)) (polynomial_lt s b)

-- ---- one position

-- the byte that holds it, and its place there
pub flip_is : (s : List ℕ) (p : ℕ) → flip s p ≡ set s (length s - 1 - p / 8) (bit_xor (get_or s (length s - 1 - p / 8) 0) (2 ^ (p % 8)))
unfolding flip
flip_is s p = ap₂ (λ (i k : ℕ). set s i (bit_xor (get_or s i 0) (2 ^ k))) (omega arith) (omega arith)

-- the byte of a position, and how many bytes stand behind it
place : List ℕ → ℕ → ℕ
place s p = length s - 1 - p / 8

module _ (s : List ℕ) (p : ℕ) (below : p < bits s) where
  place_lt : place s p < length s
  unfolding place
  place_lt = omega arith

  behind : length (drop (suc (place s p)) s) ≡ p / 8
  unfolding place
  behind = simp length-drop (omega arith)

  power_at : 2 ^ p ≡ 2 ^ (p % 8) * 256 ^ (p / 8)
  power_at =
      let e : p ≡ p % 8 + 8 * (p / 8) = omega arith in
      ap (λ (x : ℕ). 2 ^ x) e ∙ pow-add 2 (p % 8) (8 * (p / 8)) ∙ ap (λ (x : ℕ). 2 ^ (p % 8) * x) (sym (byte_power (p / 8)))

  bit_power_lt : 2 ^ (p % 8) < 256
  bit_power_lt = pow-lt {i = p % 8} {j = 8} (omega arith)

  -- the packet with any byte there
  around : (b : ℕ) → polynomial (set s (place s p) b) ≡ (polynomial (take (place s p) s) * 256 + b) * 256 ^ (p / 8) + polynomial (drop (suc (place s p)) s)
  around b =
      ap polynomial (set_split s (place s p) b place_lt)
      ∙ polynomial_around (take (place s p) s) b (drop (suc (place s p)) s)
      ∙ ap (λ (k : ℕ). (polynomial (take (place s p) s) * 256 + b) * 256 ^ k + polynomial (drop (suc (place s p)) s)) behind

  whole : polynomial s ≡ (polynomial (take (place s p) s) * 256 + get_or s (place s p) 0) * 256 ^ (p / 8) + polynomial (drop (suc (place s p)) s)
  whole = ap polynomial (sym (set-get_or s (place s p) 0)) ∙ around (get_or s (place s p) 0)

  rest_lt : Bytes s → polynomial (drop (suc (place s p)) s) < 256 ^ (p / 8)
  rest_lt h = rw (← behind) (polynomial_lt (drop (suc (place s p)) s) (λ i. rw (get_or-drop (suc (place s p)) s i 0) (h (suc (place s p) + i))))

  pub polynomial-flip : Bytes s → polynomial (flip s p) ≡ bit_xor (polynomial s) (2 ^ p)
  unfolding place
  polynomial-flip h =
      let a : ℕ = polynomial (take (place s p) s) in
      let b : ℕ = get_or s (place s p) 0 in
      let c : ℕ = polynomial (drop (suc (place s p)) s) in
      let k : ℕ = 8 * (p / 8) in
      let c_lt : c < 2 ^ k = rw (← byte_power (p / 8)) (rest_lt h) in
      let low_bits : bit_xor (a * 256 + b) (0 * 256 + 2 ^ (p % 8)) ≡ bit_xor a 0 * 256 + bit_xor b (2 ^ (p % 8)) = xor_block 8 a 0 b (2 ^ (p % 8)) (h (place s p)) bit_power_lt in
      ap polynomial (flip_is s p)
      ∙ around (bit_xor b (2 ^ (p % 8)))
      ∙ sym
      (ap₂ bit_xor (whole ∙ ap (λ (x : ℕ). (a * 256 + b) * x + c) (byte_power (p / 8))) (power_at ∙ ap (λ (x : ℕ). 2 ^ (p % 8) * x) (byte_power (p / 8)) ∙ sym (add-zero (2 ^ (p % 8) * 2 ^ k)))
      ∙ xor_block k (a * 256 + b) (2 ^ (p % 8)) c 0 c_lt (pow_pos k)
      ∙ ap₂ (λ (x y : ℕ). x * 2 ^ k + y) (ap (bit_xor (a * 256 + b)) (sym (zero-add (2 ^ (p % 8)))) ∙ low_bits ∙ ap (λ (x : ℕ). x * 256 + bit_xor b (2 ^ (p % 8))) (xor_zero_r a)) (xor_zero_r c)
      ∙ sym (ap (λ (x : ℕ). (a * 256 + bit_xor b (2 ^ (p % 8))) * x + c) (byte_power (p / 8))))

  -- a bit of the packet is a coefficient of its polynomial
  pub bit_coefficient : Bytes s → bit_at s p ≡ polynomial s / 2 ^ p % 2
  unfolding bit_at place
  bit_coefficient h =
      let a : ℕ = polynomial (take (place s p) s) in
      let b : ℕ = get_or s (place s p) 0 in
      let c : ℕ = polynomial (drop (suc (place s p)) s) in
      let k : ℕ = 8 * (p / 8) in
      let r : ℕ = p % 8 in
      let c_lt : c < 2 ^ k = rw (← byte_power (p / 8)) (rest_lt h) in
      let places : k + r ≡ p = omega arith in
      let eight : 7 - r + 1 + r ≡ 8 = omega arith in
      let high_bits : polynomial s / 2 ^ p ≡ (a * 256 + b) / 2 ^ r =
      ap (λ (x : ℕ). polynomial s / 2 ^ x) (sym places)
      ∙ sym (shr-shr (polynomial s) k r)
      ∙ ap (λ (x : ℕ). x / 2 ^ r) (ap (λ (x : ℕ). x / 2 ^ k) (whole ∙ ap (λ (x : ℕ). (a * 256 + b) * x + c) (byte_power (p / 8))) ∙ high (a * 256 + b) k c_lt) in
      let low_byte : (a * 256 + b) % 2 ^ (7 - r + 1 + r) ≡ b = ap (λ (x : ℕ). (a * 256 + b) % 2 ^ x) eight ∙ low a 8 (h (place s p)) in
      ap (λ (x : ℕ). x / 2 ^ r % 2) (sym low_byte)
      ∙ ap (λ (x : ℕ). x % 2) (field (a * 256 + b) (7 - r + 1) r)
      ∙ mod-mod-pow ((a * 256 + b) / 2 ^ r) (7 - r) 1
      ∙ ap (λ (x : ℕ). x % 2) (sym high_bits)

  pub flip_bytes : Bytes s → Bytes (flip s p)
  unfolding place
  flip_bytes h i =
      rw (flip_is s p)
      (by_equal i (place s p)
      (λ e. rw (e, get_or-set_same s (place s p) (bit_xor (get_or s (place s p) 0) (2 ^ (p % 8))) 0 place_lt) (xor_lt 8 (get_or s (place s p) 0) (2 ^ (p % 8)) (h (place s p)) bit_power_lt))
      (λ e. rw (get_or-set_other s (place s p) i (bit_xor (get_or s (place s p) 0) (2 ^ (p % 8))) 0 e) (h i)))

pub flip-length : (s : List ℕ) (p : ℕ) → length (flip s p) ≡ length s
flip-length s p = ap length (flip_is s p) ∙ length-set s _ _

-- ---- the other bits stay

bit_at_same_byte : (s : List ℕ) (p q : ℕ) → p < bits s → p / 8 ≡ q / 8 → p % 8 ≢ q % 8 → bit_at (flip s p) q ≡ bit_at s q
unfolding bit_at
bit_at_same_byte s p q hp e h =
    let i : length s - 1 - p / 8 < length s = omega arith in
    rw (flip_is s p, length-set, ← e, get_or-set_same s (length s - 1 - p / 8) _ 0 i) (xor_other (get_or s (length s - 1 - p / 8) 0) (p % 8) (q % 8) h)

bit_at_other_byte : (s : List ℕ) (p q : ℕ) → p < bits s → q < bits s → p / 8 ≢ q / 8 → bit_at (flip s p) q ≡ bit_at s q
unfolding bit_at
bit_at_other_byte s p q hp hq h =
    let i : length s - 1 - q / 8 ≢ length s - 1 - p / 8 = λ e. h (omega arith) in
    rw (flip_is s p, length-set, get_or-set_other s (length s - 1 - p / 8) (length s - 1 - q / 8) _ 0 i) refl

pub bit_at_flip_other : (s : List ℕ) (p q : ℕ) → p < bits s → q < bits s → p ≢ q → bit_at (flip s p) q ≡ bit_at s q
bit_at_flip_other s p q hp hq h =
    by_test (eqb (p / 8) (q / 8))
    (λ t. let e = eqb-true _ _ t in bit_at_same_byte s p q hp e (λ m. h (omega arith)))
    (λ t. bit_at_other_byte s p q hp hq (eqb-false _ _ t))

-- ---- several positions

pub flips_nil : (s : List ℕ) → flips s [] ≡ s
unfolding flips
flips_nil s = refl

pub flips_cons : (s : List ℕ) (p : ℕ) (ps : List ℕ) → flips s (p ∷ ps) ≡ flips (flip s p) ps
unfolding flips
flips_cons s p ps = refl

-- those that are left at one place, and where none is left
pub flips_turn : (s ps : List ℕ) (i : ℕ) → i < length ps → flips (flip s (get_or ps i 0)) (drop (i + 1) ps) ≡ flips s (drop i ps)
flips_turn s ps i h = rw (add-one i, drop-cons ps i 0 h) (sym (flips_cons s (get_or ps i 0) (drop (suc i) ps)))

pub flips_end : (s ps : List ℕ) (i : ℕ) → length ps ≤ i → flips s (drop i ps) ≡ s
flips_end s ps i h = ap (flips s) (drop_of_length-le ps {i = i} h) ∙ flips_nil s

pub flips-length : (s ps : List ℕ) → length (flips s ps) ≡ length s
unfolding flips
flips-length s [] = refl
flips-length s (p ∷ ps) = flips-length (flip s p) ps ∙ flip-length s p

pub flips_bytes : (s ps : List ℕ) → All (λ (p : ℕ). p < bits s) ps → Bytes s → Bytes (flips s ps)
unfolding flips
flips_bytes s [] none h = h
flips_bytes s (p ∷ ps) (each l ls) h = flips_bytes (flip s p) ps (rw (flip-length s p) ls) (flip_bytes s p l h)

pub polynomial-flips : (s ps : List ℕ) → All (λ (p : ℕ). p < bits s) ps → Bytes s → polynomial (flips s ps) ≡ bit_xor (polynomial s) (powers ps)
unfolding flips powers
polynomial-flips s [] none h = sym (xor_zero_r (polynomial s))
polynomial-flips s (p ∷ ps) (each l ls) h =
    polynomial-flips (flip s p) ps (rw (flip-length s p) ls) (flip_bytes s p l h)
    ∙ ap (λ (x : ℕ). bit_xor x (powers ps)) (polynomial-flip s p l h)
    ∙ xor_assoc (polynomial s) (2 ^ p) (powers ps)
