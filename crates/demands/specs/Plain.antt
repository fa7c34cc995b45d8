-- Remainder, seal and repair of a generator alone: division of the packet itself, and no condition 11.
use Rattle.std.specs.Prelude.{ℕ, Bool, ◌&&◌, List, [], ◌∷◌, eqb, length}
use Rattle.std.specs.Int.Bits.{bit_xor}
use Rattle.base.specs.Outcome.{Outcome, refused, accepted, Condition, pick, judge}
use Rattle.poly.specs.Polynomial.{rem}
use Rattle.poly.specs.declared.Generator.{Generator}
use Rattle.packet.specs.Packet.{bits, polynomial, bytes_of, flips}
use Rattle.packet.specs.declared.Crc.{Crc}
use Rattle.crc.specs.Calls.{packet_conditions}
use Rattle.checksum.specs.Checksum.{passes}
use Rattle.patterns.specs.Listing.{listing, sift}
use Rattle.verdicts.specs.Verdicts.{Said, intact, settled, mended}
use Rattle.repair.specs.Calls.{Repair, repair_conditions}

-- what division leaves of the packet itself
abbrev pub plain_remainder : Generator → List ℕ → ℕ
plain_remainder g s = rem g.degree g.coefficients (polynomial s)

-- conditions without that of number k
abbrev pub without : ℕ → List Condition → List Condition
without k [] = []
without k (t ∷ ts) = pick (eqb k t.number) (without k ts) (t ∷ without k ts)

-- remainder and seal: of the CRC only the generator is read
abbrev pub plain_remainder_call : Crc → List ℕ → Outcome ℕ
plain_remainder_call c s = judge (without 11 (packet_conditions c (bits s))) refused (accepted (plain_remainder c.generator s))

abbrev pub plain_seal_call : Crc → List ℕ → Outcome (Unit {0})
plain_seal_call c s = judge (without 11 (packet_conditions c (bits s))) refused (accepted tt)

abbrev pub plain_seal_packet : Crc → List ℕ → List ℕ
plain_seal_packet c s =
    judge (without 11 (packet_conditions c (bits s))) (λ _. s) (bytes_of (length s) (bit_xor (polynomial s) (plain_remainder c.generator s)))

-- a repair, and again of its CRC only the generator
module _ (r : Repair) where
  abbrev pub plain_passes : Bool
  plain_passes = eqb (plain_remainder r.crc.generator r.packet) 0 && passes r.check r.packet

  abbrev pub plain_candidates : List (List ℕ)
  plain_candidates =
      sift (λ ps. passes r.check (flips r.packet ps))
      (listing r.crc.generator.degree r.crc.generator.coefficients (bits r.packet) r.limit (plain_remainder r.crc.generator r.packet))

  abbrev pub plain_repair_call : Outcome Said
  plain_repair_call = judge (without 11 (repair_conditions r)) refused (accepted (pick plain_passes intact (settled plain_candidates)))

  abbrev pub plain_repair_output : List ℕ
  plain_repair_output = judge (without 11 (repair_conditions r)) (λ _. r.output) (pick plain_passes r.output (mended plain_candidates r.packet r.output))
