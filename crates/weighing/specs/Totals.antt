-- What bits count in the plain total of a range, by which the second check of a packet with flipped bits is decided.
use Rattle.std.specs.Prelude.{ℕ, ◌+◌, ◌-◌, ◌*◌, ◌/◌, ◌%◌, ◌^◌, ◌≤◌, ◌≡◌, ◌≢◌, List, [], ◌∷◌, eqb, length}
use Rattle.std.specs.Borrow.{Bor}
use Rattle.base.specs.Outcome.{pick}
use Rattle.packet.specs.Packet.{Bytes, bit_at}
use Rattle.checksum.specs.Checksum.{total, range, field_of}
use Rattle.checksum.specs.Shares.{share}
use Rattle.checksum.specs.declared.Check.{Check}
use Rattle.weighing.specs.declared.Change.{Change}
use Rattle.weighing.specs.declared.Weighed.{Weighed}

-- what the bit at a position counts in the total of the range
unfoldable pub weight : ℕ → ℕ → List ℕ → ℕ → ℕ
weight a e s p = share a e (length s - 1 - p / 8) * 2 ^ (p % 8)

-- what the bits of a packet that are one at the given positions count together, and those that are zero
unfoldable pub set_weight : ℕ → ℕ → List ℕ → List ℕ → ℕ
set_weight a e s [] = 0
set_weight a e s (p ∷ ps) = bit_at s p * weight a e s p + set_weight a e s ps

unfoldable pub clear_weight : ℕ → ℕ → List ℕ → List ℕ → ℕ
clear_weight a e s [] = 0
clear_weight a e s (p ∷ ps) = (1 - bit_at s p) * weight a e s p + clear_weight a e s ps

-- what the flip of position p adds to the total of the range and takes away from it, none of it above 2 ^ 15
pub record Changes (r : Change) (a e : ℕ) (s : List ℕ) (p : ℕ) : Type 0 where
  pub adds : r.plus ≡ (1 - bit_at s p) * weight a e s p
  pub takes : r.minus ≡ bit_at s p * weight a e s p
  pub few : r.plus ≤ 32768
  pub less : r.minus ≤ 32768

-- t is the total of the bytes from a on and before e of the packet s
pub record Totalled (a e t : ℕ) (s : List ℕ) : Type 0 where
  pub bytes : Bytes s
  pub short : length s ≤ 512
  pub inside : e ≤ length s
  pub known : t ≡ total (range a e s)

-- the number in the field of a check; where there is no second check there is no field, and the number is 0
unfoldable pub in_field : Check → List ℕ → ℕ
in_field k s = pick (eqb k.from k.to) 0 (field_of k.field s)

-- a packet and a check with what decides it
abbrev pub weighed : Check → Bor (List ℕ) → Weighed
weighed k packet = record { packet = packet; check = k; total = total (range k.from k.to packet.now); in_field = in_field k packet.now }

-- w has the total of its check's range in its packet and, where there is a second check, that of its field
pub record Weighs (w : Weighed) : Type 0 where
  pub summed : Totalled w.check.from w.check.to w.total w.packet.now
  pub field_totalled : w.check.from ≢ w.check.to → Totalled w.check.field (w.check.field + 2) w.in_field w.packet.now
