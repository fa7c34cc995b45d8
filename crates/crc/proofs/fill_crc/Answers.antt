-- `fill_crc` seals: the remainder is XORed into the last bits.
use native.Mathlib.Omega.{arith}
use lib.Bits.{xor_zero_r}
use Rattle.crc.proofs.SealLaws.{sealed_by}
use Rattle.crc.proofs.fill_crc.Goals as goal

pub returns : goal.returns
returns c =
    sealed_by c.args.crc c.args.packet.now c.add_low.ensures (omega (arith, c.remainder_of-r.ensures, xor_zero_r c.remainder_of-r.result))
