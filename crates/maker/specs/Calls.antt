-- The packet maker: the packet that it makes, what the call answers, and what the lent packet then holds.
use Rattle.std.specs.Prelude.{ℕ, List, [], ◌∷◌, length}
use Rattle.base.specs.Outcome.{Outcome, refused, accepted, Condition, when, judge}
use Rattle.poly.specs.Generators.{unfit}
use Rattle.packet.specs.Packet.{bits, unfit_length, unfit_values}
use Rattle.packet.specs.declared.Crc.{Crc}
use Rattle.crc.specs.Calls.{sealed}
use Rattle.checksum.specs.Checksum.{unfit_range, unfit_field, stamped}
use Rattle.checksum.specs.declared.Check.{Check}
use Rattle.maker.specs.Stream.{yielded, state_after}

-- the packet of so many bytes that is made from a seed: bytes of the stream, stamped and then sealed
unfoldable pub made : Crc → ℕ → Check → ℕ → List ℕ
made c seed k count = sealed c (stamped k (yielded count seed))

-- the maker is refused by 1, 2, 11, 9 and 10
abbrev pub make_conditions : Crc → ℕ → Check → List Condition
make_conditions c l k =
    when 1 (unfit c.generator.coefficients)
    ∷ when 2 (unfit_length c.generator.degree l)
    ∷ when 11 (unfit_values c.generator.degree c.init c.xorout)
    ∷ when 9 (unfit_range c.generator.degree l k)
    ∷ when 10 (unfit_field k)
    ∷ []

-- an answer that is no refusal holds the final state
abbrev pub make_call : Crc → ℕ → Check → List ℕ → Outcome ℕ
make_call c seed k s = judge (make_conditions c (bits s) k) refused (accepted (state_after (length s) seed))

-- the packet after the call
abbrev pub make_packet : Crc → ℕ → Check → List ℕ → List ℕ
make_packet c seed k s = judge (make_conditions c (bits s) k) (λ _. s) (made c seed k (length s))
