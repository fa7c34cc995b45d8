-- What sealing means: the remainder becomes 0, only the last n bits change, and no other packet has both properties.
use mathlib.Core.Path.{◌≡◌, sym, ap, ap₂, ◌∙◌}
use mathlib.Core.List.{List, [], ◌∷◌}
use Prim.Native.Nat.{ℕ, zero, suc, ◌+◌, ◌-◌, ◌/◌, ◌%◌, ◌^◌, ◌<◌, ◌≤◌}
use native.Mathlib.Omega.{arith}
use native.Mathlib.Nat.{mod-eq_of_lt, div-eq_of_lt}
use lib.Bits.{bit_xor, xor_lt, xor_self, xor_zero_r, xor_comm, xor_shr}
use lib.ListN.{length, get_or, get_or-append}
use lib.Pow.{pow_mono, shr-shr}
use lib.Seq.{get_or-append-add}
use Rattle.base.proofs.Cases.{by_order}
use Rattle.base.proofs.XorLaws.{xor_cancel}
use Rattle.poly.specs.Polynomial.{rem}
use Rattle.poly.specs.Fit.{Divisor}
use Rattle.poly.proofs.DivisionLaws.{rem_small}
use Rattle.packet.specs.Packet.{Bytes, bits, polynomial, bytes_of, remainder, bit_at}
use Rattle.packet.specs.declared.Crc.{Crc}
use Rattle.packet.proofs.PacketLaws.{length_bytes, bytes_suc, polynomial_bytes, bytes_polynomial}
use Rattle.packet.proofs.FlipLaws.{polynomial_lt, byte_power, bit_coefficient}
use Rattle.packet.proofs.DifferenceLaws.{agreeing_sum}
use Rattle.packet.proofs.RemainderLaws.{remainder_lt, remainder-sum}
use Rattle.crc.specs.Calls.{sealed}

single : (b i : ℕ) → b < 256 → get_or (b ∷ []) i 0 < 256
single b zero h = h
single b (suc i) h = omega arith

-- what `bytes` writes are bytes
pub bytes_are : (k v : ℕ) → Bytes (bytes_of k v)
bytes_are zero v i = unfold bytes_of in omega arith
bytes_are (suc k) v i =
    rw (bytes_suc k v)
    (by_order i k
    (λ h. rw (get_or-append (bytes_of k (v / 256)) (v % 256 ∷ []) 0 i (rw (length_bytes k (v / 256)) h)) (bytes_are k (v / 256) i))
    (λ h.
    let e : i ≡ length (bytes_of k (v / 256)) + (i - k) = omega (arith, length_bytes k (v / 256)) in
    rw (e, get_or-append-add (bytes_of k (v / 256)) (v % 256 ∷ []) (i - k) 0) (single (v % 256) (i - k) (omega arith))))

pub sealed_is : (c : Crc) (s : List ℕ) → sealed c s ≡ bytes_of (length s) (bit_xor (polynomial s) (remainder c s))
unfolding sealed
sealed_is c s = ap (bytes_of (length s)) (search (xor_comm, xor_zero_r))

-- what is left once the remainder is added
pub sealed_by : (c : Crc) (s : List ℕ) {t : List ℕ} {r : ℕ} → t ≡ bytes_of (length s) (bit_xor (polynomial s) r) → r ≡ remainder c s → t ≡ sealed c s
sealed_by c s added e = added ∙ ap (λ (x : ℕ). bytes_of (length s) (bit_xor (polynomial s) x)) e ∙ sym (sealed_is c s)

module _ (c : Crc) (d : Divisor c.generator.degree c.generator.coefficients) (s : List ℕ) (b : Bytes s) (long : c.generator.degree ≤ bits s) where
  n : ℕ
  n = c.generator.degree

  pub sealed-length : length (sealed c s) ≡ length s
  sealed-length = ap length (sealed_is c s) ∙ length_bytes (length s) (bit_xor (polynomial s) (remainder c s))

  pub sealed_bytes : Bytes (sealed c s)
  sealed_bytes = rw (sealed_is c s) (bytes_are (length s) (bit_xor (polynomial s) (remainder c s)))

  pub sealed-polynomial : polynomial (sealed c s) ≡ bit_xor (polynomial s) (remainder c s)
  sealed-polynomial =
      let e : 256 ^ length s ≡ 2 ^ bits s = byte_power (length s) in
      let h : polynomial s < 2 ^ bits s = rw e at (polynomial_lt s b) in
      let k : remainder c s < 2 ^ bits s = omega (arith, remainder_lt c d s, pow_mono long) in
      ap polynomial (sealed_is c s)
      ∙ polynomial_bytes (length s) (bit_xor (polynomial s) (remainder c s))
      ∙ mod-eq_of_lt (rw e (xor_lt (bits s) (polynomial s) (remainder c s) h k))

  -- what was added is the remainder
  sealed-sum : bit_xor (polynomial s) (polynomial (sealed c s)) ≡ remainder c s
  sealed-sum = ap (bit_xor (polynomial s)) sealed-polynomial ∙ xor_cancel (polynomial s) (remainder c s)

  -- a sealed packet has remainder 0
  pub sealed-remainder : remainder c (sealed c s) ≡ 0
  unfolding n
  sealed-remainder =
      let left : bit_xor (remainder c s) (remainder c (sealed c s)) ≡ remainder c s =
      remainder-sum c d s (sealed c s) sealed-length
      ∙ ap (rem n c.generator.coefficients) sealed-sum
      ∙ rem_small n c.generator.coefficients (remainder c s) (remainder_lt c d s) in
      sym (xor_cancel (remainder c s) (remainder c (sealed c s))) ∙ ap (bit_xor (remainder c s)) left ∙ xor_self (remainder c s)

  -- sealing a packet of remainder 0 changes nothing
  pub sealed-same : remainder c s ≡ 0 → sealed c s ≡ s
  sealed-same e = sealed_is c s ∙ ap (bytes_of (length s)) (ap (bit_xor (polynomial s)) e ∙ xor_zero_r (polynomial s)) ∙ bytes_polynomial s b

  -- the terms from x^n on stay
  pub sealed_high : polynomial (sealed c s) / 2 ^ c.generator.degree ≡ polynomial s / 2 ^ c.generator.degree
  unfolding n
  sealed_high =
      ap (λ (x : ℕ). x / 2 ^ n) sealed-polynomial
      ∙ xor_shr (polynomial s) (remainder c s) n
      ∙ ap (bit_xor (polynomial s / 2 ^ n)) (div-eq_of_lt (remainder_lt c d s))
      ∙ xor_zero_r (polynomial s / 2 ^ n)

  -- sealing changes none but the last n bits
  pub sealed_bit : (p : ℕ) → c.generator.degree ≤ p → p < bits s → bit_at (sealed c s) p ≡ bit_at s p
  unfolding n
  sealed_bit p h k =
      let e : n + (p - n) ≡ p = omega arith in
      let split : (v : ℕ) → v / 2 ^ p ≡ v / 2 ^ n / 2 ^ (p - n) =
      λ v. ap (λ (x : ℕ). v / 2 ^ x) (sym e) ∙ sym (shr-shr v n (p - n)) in
      bit_coefficient (sealed c s) p (rw sealed-length k) sealed_bytes
      ∙ ap (λ (x : ℕ). x % 2) (split (polynomial (sealed c s)) ∙ ap (λ (x : ℕ). x / 2 ^ (p - n)) sealed_high ∙ sym (split (polynomial s)))
      ∙ sym (bit_coefficient s p k b)

  -- and it is the only packet of its length that has remainder 0 and the bits of s from position n on
  pub sealed_only : (t : List ℕ) → Bytes t → length s ≡ length t → ((p : ℕ) → c.generator.degree ≤ p → p < bits s → bit_at s p ≡ bit_at t p)
      → remainder c t ≡ 0 → t ≡ sealed c s
  unfolding n
  sealed_only t bt l agree z =
      let difference : ℕ = bit_xor (polynomial s) (polynomial t) in
      let small : difference < 2 ^ n = agreeing_sum s t n agree b bt l in
      let left : difference ≡ remainder c s =
      sym (rem_small n c.generator.coefficients difference small)
      ∙ sym (remainder-sum c d s t (sym l))
      ∙ ap (bit_xor (remainder c s)) z
      ∙ xor_zero_r (remainder c s) in
      sym (bytes_polynomial t bt) ∙ ap₂ bytes_of (sym l) (sym (xor_cancel (polynomial s) (polynomial t)) ∙ ap (bit_xor (polynomial s)) left) ∙ sym (sealed_is c s)
