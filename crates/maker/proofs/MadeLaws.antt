-- Where none of the maker's conditions applies, the calls stamp and seal accept the bytes yielded, and leave the packet made;
-- and that has bytes, as many as were asked for.
use Rattle.std.proofs.Common.{◌≡◌, ℕ, ◌*◌, ◌≤◌, false, length, ap, ◌∙◌, arith}
use Rattle.base.specs.Outcome.{accepted}
use Rattle.base.proofs.JudgeLaws.{applied, judge_accepted}
use Rattle.poly.specs.Polynomial.{degree}
use Rattle.poly.proofs.GeneratorLaws.{fit_accepted}
use Rattle.packet.specs.Packet.{Bytes, bits, unfit_length, crc_of}
use Rattle.packet.proofs.PacketLaws.{fit_length}
use Rattle.crc.specs.Calls.{seal_packet}
use Rattle.crc.proofs.SealLaws.{sealed-length, sealed_bytes}
use Rattle.checksum.specs.Checksum.{unfit_range, stamped}
use Rattle.checksum.specs.Calls.{stamp_conditions, stamp_call, stamp_packet}
use Rattle.checksum.specs.declared.Check.{Check}
use Rattle.checksum.proofs.StampLaws.{stamped-length, stamped_bytes}
use Rattle.maker.specs.Stream.{yielded}
use Rattle.maker.specs.Calls.{made, make_conditions}
use Rattle.maker.proofs.StreamLaws.{yielded-length, yielded_bytes}

module _ (g init xorout seed : ℕ) (k : Check) (count : ℕ) (clear : (i : ℕ) → applied i (make_conditions (crc_of g init xorout) (8 * count) k) ≡ false) where
  yielded_fits : unfit_length (degree g) (bits (yielded count seed)) ≡ false
  yielded_fits = rw (yielded-length count seed) (clear 2)

  range_fits : unfit_range (degree g) (bits (yielded count seed)) k ≡ false
  range_fits = rw (yielded-length count seed) (clear 9)

  stamped_fits : unfit_length (degree g) (bits (stamped k (yielded count seed))) ≡ false
  stamped_fits = rw (stamped-length k (yielded count seed)) yielded_fits

  pub stamp_accepts : stamp_call g k (yielded count seed) ≡ accepted tt
  stamp_accepts = simp (clear 1, yielded_fits, range_fits, clear 10)

  pub made_by_calls : seal_packet (crc_of g init xorout) (stamp_packet g k (yielded count seed)) ≡ made (crc_of g init xorout) seed k count
  unfolding made
  made_by_calls =
      let s = yielded count seed in
      ap (seal_packet (crc_of g init xorout)) (judge_accepted (stamp_conditions g (bits s) k) tt tt (λ _. s) (stamped k s) stamp_accepts)
      ∙ simp (clear 1, stamped_fits, clear 11)

  long : degree g ≤ bits (stamped k (yielded count seed))
  long = omega (arith, (fit_length (degree g) (bits (stamped k (yielded count seed))) stamped_fits).0)

  pub made-length : length (made (crc_of g init xorout) seed k count) ≡ count
  unfolding made
  made-length =
      sealed-length (crc_of g init xorout) (fit_accepted g (clear 1)).divisor (stamped k (yielded count seed)) (stamped_bytes k _ (yielded_bytes count seed)) long
      ∙ stamped-length k (yielded count seed)
      ∙ yielded-length count seed

  pub made_bytes : Bytes (made (crc_of g init xorout) seed k count)
  unfolding made
  made_bytes = sealed_bytes (crc_of g init xorout) (fit_accepted g (clear 1)).divisor (stamped k (yielded count seed)) (stamped_bytes k _ (yielded_bytes count seed)) long
