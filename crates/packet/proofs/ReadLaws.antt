-- The packet as the CRC reads it: the values added are the same for all packets of one length.
use mathlib.Core.Path.{◌≡◌, ap₂}
use mathlib.Core.Bool.{false}
use mathlib.Core.List.{List}
use Prim.Native.Nat.{ℕ, ◌+◌, ◌*◌, ◌^◌}
use native.Mathlib.Omega.{arith}
use native.Mathlib.Nat.{zero-mul}
use lib.Bits.{bit_xor, xor_zero_r}
use lib.ListN.{length}
use Rattle.base.proofs.XorLaws.{xor-ac}
use Rattle.poly.specs.Polynomial.{degree}
use Rattle.poly.specs.Generators.{unfit}
use Rattle.poly.proofs.GeneratorLaws.{fit_accepted}
use Rattle.packet.specs.Packet.{bits, polynomial, unfit_length, unfit_values, crc_of, as_read}
use Rattle.packet.specs.Reading.{Readable}
use Rattle.packet.specs.declared.Crc.{Crc}
use Rattle.packet.proofs.PacketLaws.{fit_length, fit_values}

-- by the places of both values: the initial value stands above the L - n bits behind it
pub read_at : (c : Crc) (s : List ℕ) (k : ℕ) → bits s ≡ c.generator.degree + k
    → as_read c s ≡ bit_xor (bit_xor (polynomial s) (c.init * 2 ^ k)) c.xorout
unfolding as_read
read_at c s k e = ap₂ (λ (x y : ℕ). bit_xor (bit_xor (polynomial s) (c.init * 2 ^ x)) y) (omega arith) (omega arith)

added_cancels : (p q a b : ℕ) → bit_xor (bit_xor (bit_xor p a) b) (bit_xor (bit_xor q a) b) ≡ bit_xor p q
added_cancels p q a b = simp xor-ac

-- what is added cancels in the sum of two packets of one length
pub read-sum : (c : Crc) (s t : List ℕ) → length t ≡ length s → bit_xor (as_read c s) (as_read c t) ≡ bit_xor (polynomial s) (polynomial t)
unfolding as_read
read-sum c s t l = rw l (added_cancels (polynomial s) (polynomial t) _ _)

-- with initial and final values 0 nothing is added
pub read_plain : (c : Crc) (s : List ℕ) → c.init ≡ 0 → c.xorout ≡ 0 → as_read c s ≡ polynomial s
unfolding as_read
read_plain c s i f = rw (i, f) (simp (zero-mul, xor_zero_r))

-- where conditions 1, 2 and 11 do not apply, a packet can be read
pub fit_readable : (g i f : ℕ) (s : List ℕ) → unfit g ≡ false → unfit_length (degree g) (bits s) ≡ false → unfit_values (degree g) i f ≡ false
    → Readable (crc_of g i f) s
fit_readable g i f s generator long values =
    let small = fit_values (degree g) i f values in
    record { fit = fit_accepted g generator; init = small.0; xorout = small.1; long = omega (arith, (fit_length (degree g) (bits s) long).0) }
