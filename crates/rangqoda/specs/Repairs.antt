-- The repair call for a C caller: what it is given, and what the memory lent to it then holds.
use Rattle.std.specs.Prelude.{ℕ, List, ◌++◌, eqb, length, take, drop}
use Rattle.base.specs.Outcome.{Outcome, pick}
use Rattle.verdicts.specs.Verdicts.{Said}
use Rattle.packet.specs.declared.Crc.{Crc}
use Rattle.checksum.specs.declared.Check.{Check}
use Rattle.repair.specs.Calls.{Repair, repair_request, repair_output}
use Rattle.rangqoda.specs.Codes.{changed}
use Rattle.codec.specs.Verdicts.{verdict_length, verdict_bytes}

-- how much of the output a call may write: all of it, and none without room for the verdict's bytes; no packet that
-- condition 2 lets through is as short as that, so condition 8 refuses the call, in its place among the conditions
abbrev pub room : List ℕ → List ℕ → ℕ
room verdict output = pick (eqb (length verdict) verdict_length) (length output) 0

-- what the repair is given
abbrev pub handed : Crc → Check → ℕ → List ℕ → List ℕ → List ℕ → List ℕ → List ℕ → Repair
handed crc check limit steps firsts packet output verdict = repair_request crc check limit steps firsts packet (take (room verdict output) output)

-- the verdict's bytes after a call of this answer
abbrev pub verdict_after : List ℕ → Outcome Said → List ℕ
verdict_after verdict = changed verdict verdict_bytes

-- the output after the call
abbrev pub output_after : Repair → List ℕ → List ℕ → List ℕ
output_after r output verdict = repair_output r ++ drop (room verdict output) output
