-- `remainder_by_ccitt` divides what is behind the first two bytes, with these and the initial value as register.
use Prim.Native.Nat.{◌-◌}
use native.Mathlib.Omega.{arith}
use lib.ListN.{length, drop, length-drop}
use lib.Seq.{take_all}
use lib.Bits.{xor_comm, xor_zero_r}
use Rattle.remainders.proofs.CcittLaws.{init_lt, two_bytes_read}
use Rattle.remainders.proofs.remainder_by_ccitt.Goals as goal

pub overflow_cast-register : goal.overflow_cast-register
overflow_cast-register c = let s = c in record { fits = init_lt s.args.crc s.args.packet.now s.requires.0 s.requires.1 }

pub returns : goal.returns
returns c =
    let p = c.args.packet.now in
    two_bytes_read c.args.crc p c.requires.0 c.requires.1 (λ i. omega (arith, c.type_inv.packet i)) c.first_two-first.ensures
    (take_all (length p - 2) (drop 2 p) (omega (arith, length-drop 2 p)))
    -- both sums may be written in another order, or with a zero: refl would tie the proof to one
    (search (xor_comm, xor_zero_r)) c.divide_by_ccitt.ensures (search (xor_comm, xor_zero_r))
