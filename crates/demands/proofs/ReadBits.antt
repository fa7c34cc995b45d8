-- What the CRC reads, bit by bit: the packet with the initial value added at its first n bits and the final value at its last n.
use mathlib.Core.Path.{◌≡◌, sym, ap, ap₂, subst, ◌∙◌}
use mathlib.Core.List.{List}
use Prim.Native.Nat.{ℕ, suc, ◌+◌, ◌-◌, ◌*◌, ◌/◌, ◌%◌, ◌^◌, ◌<◌, ◌≤◌}
use native.Mathlib.Omega.{arith}
use native.Mathlib.Nat.{mul_assoc, pow-suc}
use borrow.Author.Tests.{ltb-true, ltb-false}
use lib.Bits.{bit_xor, differ, xor_lt}
use lib.Dec.{ltb}
use lib.Pow.{pow-add, pow_mono, shl_lt, shl-shr, shr-shr}
use Rattle.base.proofs.Cases.{by_test}
use Rattle.base.proofs.XorLaws.{xor_bit}
use Rattle.packet.specs.Packet.{Bytes, bits, polynomial, as_read}
use Rattle.packet.specs.Reading.{Readable}
use Rattle.packet.specs.declared.Crc.{Crc}
use Rattle.packet.proofs.ReadLaws.{read_at}
use Rattle.packet.proofs.FlipLaws.{polynomial_below, bit_coefficient}
use Rattle.demands.specs.Demand2.{bit_from, Reads}

-- a value whose lowest bit stands at a position has none below it
shifted_bit : (v from p : ℕ) → v * 2 ^ from / 2 ^ p % 2 ≡ bit_from v from p
unfolding bit_from
shifted_bit v from p =
    by_test (ltb p from)
    (λ t.
    let h : p < from = ltb-true p from t in
    let k : ℕ = from - p - 1 in
    let places : from ≡ suc k + p = omega arith in
    let powers : v * 2 ^ from ≡ v * 2 ^ k * 2 * 2 ^ p =
    ap (λ (x : ℕ). v * 2 ^ x) places
    ∙ ap (λ (x : ℕ). v * x) (pow-add 2 (suc k) p)
    ∙ sym (mul_assoc v (2 ^ suc k) (2 ^ p))
    ∙ ap (λ (x : ℕ). x * 2 ^ p) (ap (λ (x : ℕ). v * x) (pow-suc 2 k) ∙ sym (mul_assoc v (2 ^ k) 2)) in
    let even : v * 2 ^ from / 2 ^ p % 2 ≡ 0 = ap (λ (x : ℕ). x / 2 ^ p % 2) powers ∙ ap (λ (x : ℕ). x % 2) (shl-shr (v * 2 ^ k * 2) p) ∙ omega arith in
    rw t even)
    (λ t.
    let h : from ≤ p = ltb-false p from t in
    let places : from + (p - from) ≡ p = omega arith in
    let bit : v * 2 ^ from / 2 ^ p ≡ v / 2 ^ (p - from) =
    ap (λ (x : ℕ). v * 2 ^ from / 2 ^ x) (sym places) ∙ sym (shr-shr (v * 2 ^ from) from (p - from)) ∙ ap (λ (x : ℕ). x / 2 ^ (p - from)) (shl-shr v from) in
    rw t (ap (λ (x : ℕ). x % 2) bit))

pub bits-read : (c : Crc) (s : List ℕ) → Readable c s → Bytes s → Reads c s (as_read c s)
bits-read c s r b =
    let n : ℕ = c.generator.degree in
    let k : ℕ = bits s - n in
    let places : bits s ≡ n + k = omega (arith, r.long) in
    let high : c.init * 2 ^ k < 2 ^ bits s = subst (λ (x : ℕ). c.init * 2 ^ k < 2 ^ x) (sym places) (shl_lt n k r.init) in
    let low : c.xorout < 2 ^ bits s = omega (arith, r.xorout, pow_mono r.long) in
    let once : c.xorout * 1 ≡ c.xorout = omega arith in
    rw (read_at c s k places)
    (record {
      below = xor_lt (bits s) (bit_xor (polynomial s) (c.init * 2 ^ k)) c.xorout (xor_lt (bits s) (polynomial s) (c.init * 2 ^ k) (polynomial_below s b) high) low;
      bit = λ p h.
          xor_bit (bit_xor (polynomial s) (c.init * 2 ^ k)) c.xorout p
          ∙ ap₂ differ
          (xor_bit (polynomial s) (c.init * 2 ^ k) p ∙ ap₂ differ (sym (bit_coefficient s p h b)) (shifted_bit c.init k p))
          (ap (λ (x : ℕ). x / 2 ^ p % 2) (sym once) ∙ shifted_bit c.xorout 0 p);
    })
