-- Verdicts as bytes: the kind, how many patterns pass in eight bytes, and the record of the first with zeros behind it.
use Rattle.std.specs.Prelude.{ℕ, ◌+◌, List, [], ◌∷◌, ◌++◌, eqb, length, get_or}
use Rattle.base.specs.Outcome.{pick}
use Rattle.packet.specs.Packet.{bytes_of}
use Rattle.records.specs.Records.{record_of, longest_record}
use Rattle.verdicts.specs.Verdicts.{Said, intact, repaired, several, nothing}
use Rattle.codec.specs.Marks.{padded}

-- how many bytes there are
abbrev pub verdict_length : ℕ
verdict_length = 9 + longest_record

-- a kind, a number in eight bytes, high byte first, and a record
abbrev pub laid : ℕ → ℕ → List ℕ → List ℕ
laid kind count ps = kind ∷ (bytes_of 8 count ++ padded (record_of ps))

-- the bytes of a verdict; where it has no pattern, zeros stand in its place, which are the record of no positions
unfoldable pub verdict_bytes : Said → List ℕ
verdict_bytes intact = laid 0 0 []
verdict_bytes (repaired p) = laid 1 1 p
verdict_bytes (several n p) = laid 2 n p
verdict_bytes nothing = laid 3 0 []

-- what to publish from, by a verdict's bytes: 0 for the received packet, 1 for the copy, 2 for nothing
unfoldable pub publish_code : List ℕ → ℕ
publish_code s = pick (eqb (length s) verdict_length) (pick (eqb (get_or s 0 0) 0) 0 (pick (eqb (get_or s 0 0) 1) 1 2)) 2

-- the bytes that such a number stands for
abbrev pub published : ℕ → List ℕ → List ℕ → List ℕ
published choice received copy = pick (eqb choice 0) received (pick (eqb choice 1) copy [])
