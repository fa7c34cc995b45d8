-- What everything above asks of the remainder: it is small, and the remainders of two packets of one length differ by that
-- of the sum of the packets. So flipping a set of positions adds their powers of x, the law on which the search for errors
-- rests.
use mathlib.Core.Path.{◌≡◌, sym, ap, ◌∙◌}
use mathlib.Core.List.{List}
use Prim.Native.Nat.{ℕ, ◌^◌, ◌<◌}
use lib.Bits.{bit_xor}
use lib.ListN.{length}
use Rattle.base.specs.Lists.{All}
use Rattle.base.proofs.XorLaws.{xor_cancel}
use Rattle.poly.specs.Polynomial.{rem, powers}
use Rattle.poly.specs.Fit.{Divisor}
use Rattle.poly.proofs.DivisionLaws.{rem_lt, rem-xor}
use Rattle.packet.specs.Packet.{Bytes, bits, polynomial, as_read, remainder, flips}
use Rattle.packet.specs.declared.Crc.{Crc}
use Rattle.packet.proofs.FlipLaws.{flips-length, polynomial-flips}
use Rattle.packet.proofs.ReadLaws.{read-sum}

module _ (c : Crc) (d : Divisor c.generator.degree c.generator.coefficients) where
  pub remainder_lt : (s : List ℕ) → remainder c s < 2 ^ c.generator.degree
  unfolding remainder
  remainder_lt s = rem_lt c.generator.degree c.generator.coefficients d.low d.high (as_read c s)

  pub remainder-sum : (s t : List ℕ) → length t ≡ length s
      → bit_xor (remainder c s) (remainder c t) ≡ rem c.generator.degree c.generator.coefficients (bit_xor (polynomial s) (polynomial t))
  unfolding remainder
  remainder-sum s t l =
      sym (rem-xor c.generator.degree c.generator.coefficients d.low d.high (as_read c s) (as_read c t))
      ∙ ap (rem c.generator.degree c.generator.coefficients) (read-sum c s t l)

  -- flipping a set of positions changes the remainder by the remainder of the sum of their powers of x
  pub remainder-flips : (s ps : List ℕ) → All (λ (p : ℕ). p < bits s) ps → Bytes s
      → remainder c (flips s ps) ≡ bit_xor (remainder c s) (rem c.generator.degree c.generator.coefficients (powers ps))
  remainder-flips s ps w b =
      let sum : bit_xor (polynomial s) (polynomial (flips s ps)) ≡ powers ps =
      ap (bit_xor (polynomial s)) (polynomial-flips s ps w b) ∙ xor_cancel (polynomial s) (powers ps) in
      sym (xor_cancel (remainder c s) (remainder c (flips s ps)))
      ∙ ap (bit_xor (remainder c s)) (remainder-sum s (flips s ps) (flips-length s ps) ∙ ap (rem c.generator.degree c.generator.coefficients) sum)
