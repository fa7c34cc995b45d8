-- A repair by the CRC alone: no second check, and no condition 10.
use Rattle.std.specs.Prelude.{Bool, List, ℕ, eqb}
use Rattle.base.specs.Outcome.{Outcome, refused, accepted, pick, judge}
use Rattle.packet.specs.Packet.{remainder}
use Rattle.verdicts.specs.Verdicts.{packet_list, Said, intact, settled, mended}
use Rattle.repair.specs.Calls.{Repair, repair_conditions}
use Rattle.demands.specs.Plain.{without}

module _ (r : Repair) where
  abbrev pub crc_passes : Bool
  crc_passes = eqb (remainder r.crc r.packet) 0

  -- every listed pattern is a candidate
  abbrev pub crc_candidates : List (List ℕ)
  crc_candidates = packet_list r.crc r.limit r.packet

  abbrev pub crc_repair_call : Outcome Said
  crc_repair_call = judge (without 10 (repair_conditions r)) refused (accepted (pick crc_passes intact (settled crc_candidates)))

  abbrev pub crc_repair_output : List ℕ
  crc_repair_output = judge (without 10 (repair_conditions r)) (λ _. r.output) (pick crc_passes r.output (mended crc_candidates r.packet r.output))
