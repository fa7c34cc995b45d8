-- The calls remainder and seal: what they answer, and what the packet then holds.
use Rattle.std.specs.Prelude.{ℕ, List, [], ◌∷◌, length}
use Rattle.std.specs.Int.Bits.{bit_xor}
use Rattle.base.specs.Outcome.{Outcome, refused, accepted, Condition, when, judge}
use Rattle.poly.specs.Generators.{unfit}
use Rattle.packet.specs.Packet.{polynomial, bytes_of, bits, unfit_length, unfit_values, remainder}
use Rattle.packet.specs.declared.Crc.{Crc}

-- the packet whose last n bits are set so that its remainder is 0; SealLaws has that it is the only one
unfoldable pub sealed : Crc → List ℕ → List ℕ
sealed c s = bytes_of (length s) (bit_xor (polynomial s) (remainder c s))

-- remainder and seal are refused by 1, 2 and 11
abbrev pub packet_conditions : Crc → ℕ → List Condition
packet_conditions c l =
    when 1 (unfit c.generator.coefficients)
    ∷ when 2 (unfit_length c.generator.degree l)
    ∷ when 11 (unfit_values c.generator.degree c.init c.xorout)
    ∷ []

abbrev pub remainder_call : Crc → List ℕ → Outcome ℕ
remainder_call c s = judge (packet_conditions c (bits s)) refused (accepted (remainder c s))

abbrev pub seal_call : Crc → List ℕ → Outcome (Unit {0})
seal_call c s = judge (packet_conditions c (bits s)) refused (accepted tt)

-- the packet after the call
abbrev pub seal_packet : Crc → List ℕ → List ℕ
seal_packet c s = judge (packet_conditions c (bits s)) (λ _. s) (sealed c s)
