-- With initial and final values 0, remainder, seal and repair answer and leave what they do for the generator alone: every
-- equation holds of every input, refused or accepted.
use mathlib.Core.Path.{◌≡◌, ap}
use mathlib.Core.Bool.{false}
use mathlib.Core.List.{List}
use Prim.Native.Nat.{ℕ}
use borrow.Author.Tests.{lt-leb}
use lib.Pow.{pow_pos}
use Rattle.poly.specs.Polynomial.{rem}
use Rattle.packet.specs.Packet.{unfit_values, remainder}
use Rattle.packet.specs.declared.Crc.{Crc}
use Rattle.packet.proofs.ReadLaws.{read_plain}
use Rattle.crc.specs.Calls.{remainder_call, seal_call, seal_packet}
use Rattle.crc.proofs.SealLaws.{sealed_is}
use Rattle.verdicts.specs.Verdicts.{passes_both, candidates}
use Rattle.repair.specs.Calls.{Repair, repair_call, repair_output}
use Rattle.demands.specs.Plain.{plain_remainder, plain_remainder_call, plain_seal_call, plain_seal_packet, plain_repair_call, plain_repair_output}

module _ (c : Crc) (i : c.init ≡ 0) (f : c.xorout ≡ 0) where
  zeros_fit : unfit_values c.generator.degree c.init c.xorout ≡ false
  unfolding unfit_values
  zeros_fit = rw (i, f, lt-leb _ _ (pow_pos c.generator.degree))

  same-remainder : (s : List ℕ) → remainder c s ≡ plain_remainder c.generator s
  unfolding remainder
  same-remainder s = ap (rem c.generator.degree c.generator.coefficients) (read_plain c s i f)

  pub plain-remainder : (s : List ℕ) → remainder_call c s ≡ plain_remainder_call c s
  plain-remainder s = rw (zeros_fit, same-remainder s)

  pub plain_seal : (s : List ℕ) → (seal_call c s ≡ plain_seal_call c s) × (seal_packet c s ≡ plain_seal_packet c s)
  plain_seal s = (rw zeros_fit, rw (zeros_fit, sealed_is c s, same-remainder s))

pub plain_repair : (r : Repair) → r.crc.init ≡ 0 → r.crc.xorout ≡ 0 → (repair_call r ≡ plain_repair_call r) × (repair_output r ≡ plain_repair_output r)
unfolding passes_both candidates
plain_repair r i f =
    let e = same-remainder r.crc i f r.packet in
    let z = zeros_fit r.crc i f in
    (rw (z, e), rw (z, e))
