-- What demand 2 says of what is read of a packet, of a remainder, of the entries of both tables and of the period, for a
-- generator g of degree n.
use Rattle.std.specs.Prelude.{ℕ, ◌-◌, ◌*◌, ◌/◌, ◌%◌, ◌^◌, ◌≤◌, ◌<◌, ◌≡◌, ◌↔◌, List, ltb}
use Rattle.std.specs.Int.Bits.{bit_xor, differ}
use Rattle.base.specs.Outcome.{pick}
use Rattle.poly.specs.Polynomial.{times, rem}
use Rattle.poly.specs.Generators.{generator_of}
use Rattle.packet.specs.Packet.{bits, bit_at}
use Rattle.packet.specs.declared.Crc.{Crc}

-- a CRC by its numbers, as every call has it
abbrev pub Numbered : Crc → Type 0
Numbered c = generator_of c.generator.coefficients ≡ c.generator

-- the bit at position p of a value whose lowest bit stands at position `from`
unfoldable pub bit_from : ℕ → ℕ → ℕ → ℕ
bit_from v from p = pick (ltb p from) 0 (v / 2 ^ (p - from) % 2)

-- v is read of a packet of L bits: it has no more bits, and each is the packet's, with that of the initial value added, whose
-- lowest bit stands at position L - n, and that of the final value, whose lowest bit stands at position 0
pub record Reads (c : Crc) (s : List ℕ) (v : ℕ) : Type 0 where
  pub below : v < 2 ^ bits s
  pub bit : (p : ℕ) → p < bits s → v / 2 ^ p % 2 ≡ differ (differ (bit_at s p) (bit_from c.init (bits s - c.generator.degree) p)) (bit_from c.xorout 0 p)

-- r is what division leaves of a: there is a quotient, r is below 2 ^ n, and no other number is so
pub record Remains (n g a r : ℕ) : Type 0 where
  pub quotient : (q : ℕ) × (a ≡ bit_xor (times q g) r)
  pub below : r < 2 ^ n
  pub only : (q t : ℕ) → a ≡ bit_xor (times q g) t → t < 2 ^ n → t ≡ r

-- entry s of the steps is that t below 2 ^ n whose product with x leaves s: half of s where s is even, else half of s XOR g
pub record Stepped (n g s t : ℕ) : Type 0 where
  pub below : t < 2 ^ n
  pub leaves : rem n g (t * 2) ≡ s
  pub only : (u : ℕ) → u < 2 ^ n → rem n g (u * 2) ≡ s → u ≡ t
  pub even : s % 2 ≡ 0 → t ≡ s / 2
  pub odd : s % 2 ≡ 1 → t ≡ bit_xor s g / 2

-- entry s of the first positions is the smallest p such that x^p leaves s, and 65535 where no power does
pub record FirstAt (n g s p : ℕ) : Type 0 where
  pub leaves : p < 65535 → rem n g (2 ^ p) ≡ s
  pub least : (q : ℕ) → rem n g (2 ^ q) ≡ s → p ≤ q
  pub absent : p ≡ 65535 ↔ ((q : ℕ) → rem n g (2 ^ q) ≡ s → ⊥)

-- the period is the smallest positive c such that x^c leaves 1
pub record IsPeriod (n g c : ℕ) : Type 0 where
  pub positive : 1 ≤ c
  pub one : rem n g (2 ^ c) ≡ 1
  pub least : (k : ℕ) → 1 ≤ k → rem n g (2 ^ k) ≡ 1 → c ≤ k
