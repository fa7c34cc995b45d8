-- A register reads a packet: what stands before it, or its first bytes, takes in the initial value.
use mathlib.Core.Path.{◌≡◌, sym, ap, ap₂, ◌∙◌}
use mathlib.Core.List.{List}
use Prim.Native.Nat.{ℕ, ◌+◌, ◌-◌, ◌*◌, ◌^◌, ◌<◌}
use native.Mathlib.Omega.{arith}
use native.Mathlib.Nat.{add-zero, mul_assoc}
use lib.Bits.{bit_xor, xor_block, xor_zero_r, xor_shifted}
use lib.ListN.{length, take, drop, length-drop, take-append-drop}
use lib.Pow.{pow-add, pow_pos}
use lib.Seq.{get_or-drop}
use Rattle.base.proofs.XorLaws.{xor-ac}
use Rattle.poly.specs.Polynomial.{rem}
use Rattle.poly.proofs.DivisionLaws.{rem-xor, rem_small, rem_shift}
use Rattle.packet.specs.Packet.{Bytes, bits, polynomial, polynomial_after, remainder}
use Rattle.packet.specs.Reading.{Readable}
use Rattle.packet.specs.declared.Crc.{Crc}
use Rattle.packet.proofs.ReadLaws.{read_at}
use Rattle.packet.proofs.FlipLaws.{after_is, polynomial-append, byte_power, polynomial_below}

-- a register in front of the packet, of which x^n times leaves the initial value, stands for that value in the first n bits
pub register_reads : (c : Crc) (s : List ℕ) (v : ℕ) → Readable c s → Bytes s
    → rem c.generator.degree c.generator.coefficients (v * 2 ^ c.generator.degree) ≡ c.init
    → bit_xor (rem c.generator.degree c.generator.coefficients (polynomial_after v s)) c.xorout ≡ remainder c s
unfolding remainder
register_reads c s v r b e =
    let n : ℕ = c.generator.degree in
    let g : ℕ = c.generator.coefficients in
    let low = r.fit.divisor.low in
    let high = r.fit.divisor.high in
    let k : ℕ = bits s - n in
    let places : bits s ≡ n + k = omega (arith, r.long) in
    let top : rem n g (v * 2 ^ bits s) ≡ rem n g (c.init * 2 ^ k) =
    ap (λ (x : ℕ). rem n g (v * x)) (ap (λ (x : ℕ). 2 ^ x) places ∙ pow-add 2 n k)
    ∙ ap (rem n g) (sym (mul_assoc v (2 ^ n) (2 ^ k)))
    ∙ rem_shift n g low high k (v * 2 ^ n)
    ∙ ap (λ (x : ℕ). rem n g (x * 2 ^ k)) e in
    let whole : polynomial_after v s ≡ bit_xor (v * 2 ^ bits s) (polynomial s) =
    after_is v s
    ∙ ap (λ (x : ℕ). v * x + polynomial s) (byte_power (length s))
    ∙ sym (xor_shifted v (bits s) (polynomial s) (polynomial_below s b)) in
    ap₂ bit_xor (ap (rem n g) whole ∙ rem-xor n g low high (v * 2 ^ bits s) (polynomial s) ∙ ap (λ (x : ℕ). bit_xor x (rem n g (polynomial s))) top) (sym (rem_small n g c.xorout r.xorout))
    ∙ sym
    (ap (rem n g) (read_at c s k places)
    ∙ rem-xor n g low high (bit_xor (polynomial s) (c.init * 2 ^ k)) c.xorout
    ∙ ap (λ (x : ℕ). bit_xor x (rem n g c.xorout)) (rem-xor n g low high (polynomial s) (c.init * 2 ^ k))
    ∙ (simp xor-ac))

-- where the degree is that of k bytes, the first k bytes with the initial value added are a register for what is behind them
pub first_bytes_read : (c : Crc) (s : List ℕ) (k : ℕ) → c.generator.degree ≡ 8 * k → Readable c s → Bytes s
    → bit_xor (rem c.generator.degree c.generator.coefficients (polynomial_after (bit_xor (polynomial (take k s)) c.init) (drop k s))) c.xorout ≡ remainder c s
unfolding remainder
first_bytes_read c s k e r b =
    let n : ℕ = c.generator.degree in
    let g : ℕ = c.generator.coefficients in
    let first : ℕ = polynomial (take k s) in
    let rest : List ℕ = drop k s in
    let m : ℕ = bits rest in
    let places : bits s ≡ n + m = omega (arith, r.long, length-drop k s) in
    let small : polynomial rest < 2 ^ m = polynomial_below rest (λ i. rw (get_or-drop k s i 0) (b (k + i))) in
    let joined : polynomial s ≡ first * 2 ^ m + polynomial rest =
    ap polynomial (sym (take-append-drop k s)) ∙ polynomial-append (take k s) rest ∙ ap (λ (x : ℕ). first * x + polynomial rest) (byte_power (length rest)) in
    let read : bit_xor (polynomial s) (c.init * 2 ^ m) ≡ polynomial_after (bit_xor first c.init) rest =
    ap₂ bit_xor joined (sym (add-zero (c.init * 2 ^ m)))
    ∙ xor_block m first c.init (polynomial rest) 0 small (pow_pos m)
    ∙ ap₂ (λ (x y : ℕ). bit_xor first c.init * x + y) (sym (byte_power (length rest))) (xor_zero_r (polynomial rest))
    ∙ sym (after_is (bit_xor first c.init) rest) in
    ap₂ bit_xor (ap (rem n g) (sym read)) (sym (rem_small n g c.xorout r.xorout))
    ∙ sym
    (ap (rem n g) (read_at c s m places)
    ∙ rem-xor n g r.fit.divisor.low r.fit.divisor.high (bit_xor (polynomial s) (c.init * 2 ^ m)) c.xorout)
