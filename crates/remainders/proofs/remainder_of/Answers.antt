-- `remainder_of` divides by the byte table where the generator is ccitt. Otherwise it divides with a register that stands for the
-- initial value, and adds the final value.
use mathlib.Core.Path.{ap, ◌∙◌}
use Prim.Native.Nat.{ℕ}
use native.Mathlib.Omega.{arith}
use lib.Bits.{bit_xor}
use Rattle.poly.specs.Generators.{ccitt}
use Rattle.poly.proofs.GeneratorLaws.{fit_by_number}
use Rattle.ccitt.proofs.ByteLaws.{ccitt_fit}
use Rattle.remainders.proofs.RegisterLaws.{register_reads}
use Rattle.remainders.proofs.remainder_of.Goals as goal

pub remainder_by_ccitt-requires : goal.remainder_by_ccitt-requires
remainder_by_ccitt-requires c =
    (fit_by_number c.args.crc.generator ccitt c.requires.fit ccitt_fit (omega (arith, c.if-g.true)), c.requires)

pub returns : goal.returns
returns c =
    ap (λ (x : ℕ). bit_xor x c.args.crc.xorout) c.divide.ensures
    ∙ register_reads c.args.crc c.args.packet.now c.register_of.result c.requires (λ i. omega (arith, c.type_inv.packet i)) c.register_of.ensures.1
