-- A packet of bytes as a binary polynomial; positions are counted from its end, the lowest bit first.
use Rattle.std.specs.Prelude.{ℕ, zero, suc, ◌+◌, ◌-◌, ◌*◌, ◌/◌, ◌%◌, ◌^◌, ◌<◌, Bool, ◌||◌, List, [], ◌∷◌, ◌++◌, leb, ltb, eqb, length, get_or, set}
use Rattle.std.specs.Int.Bits.{bit_xor}
use Rattle.base.specs.Outcome.{pick}
use Rattle.poly.specs.Polynomial.{rem}
use Rattle.poly.specs.Generators.{generator_of}
use Rattle.packet.specs.declared.Crc.{Crc}

-- the elements are bytes
abbrev pub Bytes : List ℕ → Type 0
Bytes s = (i : ℕ) → get_or s i 0 < 256

-- the bytes as one number, the first byte highest; v stands before them
unfoldable pub polynomial_after : ℕ → List ℕ → ℕ
polynomial_after v [] = v
polynomial_after v (b ∷ s) = polynomial_after (v * 256 + b) s

unfoldable pub polynomial : List ℕ → ℕ
unfolding polynomial_after
polynomial s = polynomial_after 0 s

-- the lowest k bytes of a number, the highest of them first
unfoldable pub bytes_of : ℕ → ℕ → List ℕ
bytes_of zero v = []
bytes_of (suc k) v = bytes_of k (v / 256) ++ (v % 256 ∷ [])

-- the packet's length in bits
abbrev pub bits : List ℕ → ℕ
bits s = 8 * length s

-- the longest packet
abbrev pub most_bits : ℕ
most_bits = 4096

-- condition 2, for a generator of degree n
unfoldable pub unfit_length : ℕ → ℕ → Bool
unfit_length n l = leb l n || ltb most_bits l

-- what the CRC of a generator, an initial and a final value is taken by
abbrev pub crc_of : ℕ → ℕ → ℕ → Crc
crc_of g i f = record { generator = generator_of g; init = i; xorout = f }

-- condition 11, for a generator of degree n: the initial or the final value is not below 2 ^ n
unfoldable pub unfit_values : ℕ → ℕ → ℕ → Bool
unfit_values n i f = leb (2 ^ n) i || leb (2 ^ n) f

-- the packet as the CRC reads it: the initial value added at its first n bits, and the final value at its last n
unfoldable pub as_read : Crc → List ℕ → ℕ
as_read c s = bit_xor (bit_xor (polynomial s) (c.init * 2 ^ (bits s - c.generator.degree))) c.xorout

-- the remainder, or syndrome, of a packet
unfoldable pub remainder : Crc → List ℕ → ℕ
remainder c s = rem c.generator.degree c.generator.coefficients (as_read c s)

-- the bit at a position
unfoldable pub bit_at : List ℕ → ℕ → ℕ
bit_at s p = get_or s (length s - 1 - p / 8) 0 / 2 ^ (p % 8) % 2

-- the packet with the bit at a position flipped, and with each of several in turn
unfoldable pub flip : List ℕ → ℕ → List ℕ
flip s p = set s (length s - 1 - p / 8) (bit_xor (get_or s (length s - 1 - p / 8) 0) (2 ^ (p % 8)))

unfoldable pub flips : List ℕ → List ℕ → List ℕ
flips s [] = s
flips s (p ∷ ps) = flips (flip s p) ps

-- the positions, among the `room` positions from `from` on, at which two packets differ
unfoldable pub differing : List ℕ → List ℕ → ℕ → ℕ → List ℕ
differing s t zero from = []
differing s t (suc room) from =
    pick (eqb (bit_at s from) (bit_at t from)) (differing s t room (suc from)) (from ∷ differing s t room (suc from))

-- the positions at which two packets of one length differ
unfoldable pub difference : List ℕ → List ℕ → List ℕ
difference s t = differing s t (bits s) 0
