-- The calls sum and stamp: what they answer, and what the packet then holds.
use Rattle.std.specs.Prelude.{ℕ, List, [], ◌∷◌}
use Rattle.base.specs.Outcome.{Outcome, refused, accepted, Condition, when, judge}
use Rattle.poly.specs.Polynomial.{degree}
use Rattle.poly.specs.Generators.{unfit}
use Rattle.packet.specs.Packet.{bits, unfit_length}
use Rattle.checksum.specs.Checksum.{sum_of, unfit_range, unfit_field, stamped}
use Rattle.checksum.specs.declared.Check.{Check}

-- sum is never refused
abbrev pub sum_call : List ℕ → ℕ
sum_call s = sum_of s

-- stamp is refused by 1, 2, 9 and 10
abbrev pub stamp_conditions : ℕ → ℕ → Check → List Condition
stamp_conditions g l k =
    when 1 (unfit g)
    ∷ when 2 (unfit_length (degree g) l)
    ∷ when 9 (unfit_range (degree g) l k)
    ∷ when 10 (unfit_field k)
    ∷ []

abbrev pub stamp_call : ℕ → Check → List ℕ → Outcome (Unit {0})
stamp_call g k s = judge (stamp_conditions g (bits s) k) refused (accepted tt)

-- the packet after the call
abbrev pub stamp_packet : ℕ → Check → List ℕ → List ℕ
stamp_packet g k s = judge (stamp_conditions g (bits s) k) (λ _. s) (stamped k s)
