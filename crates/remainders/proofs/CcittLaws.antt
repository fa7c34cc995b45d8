-- The packet as a CRC by ccitt reads it: the first two bytes and the initial value are a register for what is behind them.
use mathlib.Core.Path.{◌≡◌, sym, ap, ap₂, ◌∙◌}
use mathlib.Core.List.{List}
use Prim.Native.Nat.{ℕ, ◌^◌, ◌<◌, ◌≤◌}
use native.Mathlib.Omega.{arith}
use lib.Bits.{bit_xor}
use lib.ListN.{length, take, drop}
use Rattle.poly.specs.Polynomial.{rem}
use Rattle.poly.specs.Generators.{ccitt}
use Rattle.poly.specs.declared.Generator.{Generator}
use Rattle.ccitt.proofs.ByteLaws.{ccitt-degree}
use Rattle.packet.specs.Packet.{Bytes, polynomial, polynomial_after, remainder}
use Rattle.packet.specs.Reading.{Readable}
use Rattle.packet.specs.declared.Crc.{Crc}
use Rattle.remainders.proofs.RegisterLaws.{first_bytes_read}

module _ (c : Crc) (s : List ℕ) (is : c.generator ≡ ccitt) (r : Readable c s) where
  of_16 : c.generator.degree ≡ 16
  of_16 = ap (λ (g : Generator). g.degree) is ∙ ccitt-degree

  pub two_bytes : 2 ≤ length s
  two_bytes = omega (arith, of_16, r.long)

  pub init_lt : c.init < 2 ^ 16
  init_lt = rw of_16 at r.init

  pub two_bytes_read : {first register t v : ℕ} {rest : List ℕ} → Bytes s → first ≡ polynomial (take 2 s) → rest ≡ drop 2 s
      → register ≡ bit_xor first c.init → t ≡ rem ccitt.degree ccitt.coefficients (polynomial_after register rest)
      → v ≡ bit_xor t c.xorout → v ≡ remainder c s
  two_bytes_read b two behind starts divided ends =
      ends
      ∙ ap (λ (x : ℕ). bit_xor x c.xorout)
      (divided
      ∙ ap₂ (λ (x : ℕ) (l : List ℕ). rem ccitt.degree ccitt.coefficients (polynomial_after x l)) (starts ∙ ap (λ (x : ℕ). bit_xor x c.init) two) behind
      ∙ ap (λ (g : Generator). rem g.degree g.coefficients (polynomial_after (bit_xor (polynomial (take 2 s)) c.init) (drop 2 s))) (sym is))
      ∙ first_bytes_read c s 2 of_16 r b
