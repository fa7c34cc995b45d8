-- The rows worked by hand (docs/RULES.md, section 11), a line for each, in that order.
use Rattle.std.specs.Prelude.{ℕ, ◌≡◌, List, [], ◌∷◌, take}
use Rattle.base.specs.Outcome.{refused, accepted}
use Rattle.poly.specs.Polynomial.{degree, rem}
use Rattle.poly.specs.Generators.{generator_of, five}
use Rattle.poly.specs.declared.Generator.{Generator}
use Rattle.packet.specs.Packet.{crc_of, remainder}
use Rattle.tables.specs.Tables.{period, step, first}
use Rattle.checksum.specs.Checksum.{sum_of, check_of}
use Rattle.checksum.specs.Calls.{stamp_call, stamp_packet}
use Rattle.checksum.specs.declared.Check.{Check}
use Rattle.maker.specs.Stream.{yielded, state_after}
use Rattle.maker.specs.Calls.{make_call, make_packet}
use Rattle.patterns.specs.Patterns.{after}
use Rattle.patterns.specs.Listing.{listing}
use Rattle.patterns.specs.Marks.{remaining}
use Rattle.channel.specs.Channel.{drawn}
use Rattle.verdicts.specs.Verdicts.{packet_list, intact, repaired, several, nothing, verdict}
use Rattle.trials.specs.Trials.{simulated}

-- the list for a generator, L, N and a syndrome
abbrev pub list_of : Generator → ℕ → ℕ → ℕ → List (List ℕ)
list_of g l limit s = listing g.degree g.coefficients l limit s

-- the range [0, 2), field 0
abbrev pub first_two : Check
first_two = check_of 0 2 0

-- no second check: a range that begins and ends at one place
abbrev pub no_check : Check
no_check = check_of 0 0 0

-- the digits 1 to 9 as text, and two zeros
abbrev pub checked : List ℕ
checked = 0x31 ∷ 0x32 ∷ 0x33 ∷ 0x34 ∷ 0x35 ∷ 0x36 ∷ 0x37 ∷ 0x38 ∷ 0x39 ∷ 0 ∷ 0 ∷ []

-- eight bytes to be filled
abbrev pub blank : List ℕ
blank = 0 ∷ 0 ∷ 0 ∷ 0 ∷ 0 ∷ 0 ∷ 0 ∷ 0 ∷ []

-- bits are given as the digits of a number, packets as their bytes; Intact is at every N
pub record Worked : Type 0 where
  -- generator 9, bits 101110000: remainder 3
  pub row1 : rem (degree 9) 9 0b101110000 ≡ 3
  -- generator 11, bits 1100010; 1101010: 0; 3
  pub row2 : (rem (degree 11) 11 0b1100010 ≡ 0) × (rem (degree 11) 11 0b1101010 ≡ 3)
  -- 11, L 5, N 1, syndrome 6: {4}
  pub row3 : list_of (generator_of 11) 5 1 6 ≡ (4 ∷ []) ∷ []
  -- five: period; step 1; first 26; first 3: 15; 26; 14; 65535
  pub row4 : (period five.degree five.coefficients ≡ 15) × (step five.degree five.coefficients 1 ≡ 26) × (first five.degree five.coefficients 26 ≡ 14) × (first five.degree five.coefficients 3 ≡ 65535)
  -- five, N 2, syndrome 1, L 15; L 16: {0}; {0},{15}
  pub row5 : (list_of five 15 2 1 ≡ (0 ∷ []) ∷ []) × (list_of five 16 2 1 ≡ (0 ∷ []) ∷ (15 ∷ []) ∷ [])
  -- five, N 2, syndrome 3, L 7; L 8: {0,1}; {0,1},{3,7}
  pub row6 : (list_of five 7 2 3 ≡ (0 ∷ 1 ∷ []) ∷ []) × (list_of five 8 2 3 ≡ (0 ∷ 1 ∷ []) ∷ (3 ∷ 7 ∷ []) ∷ [])
  -- five, N 2, syndrome 0, L 15; L 16: {}; {},{0,15}
  pub row7 : (list_of five 15 2 0 ≡ [] ∷ []) × (list_of five 16 2 0 ≡ [] ∷ (0 ∷ 15 ∷ []) ∷ [])
  -- five, N 2, syndrome 30, L 9: {5,7},{3,8},{0,6}
  pub row8 : list_of five 9 2 30 ≡ (5 ∷ 7 ∷ []) ∷ (3 ∷ 8 ∷ []) ∷ (0 ∷ 6 ∷ []) ∷ []
  -- the same after mark {1,2}: {5,7},{3,8},{0,6}
  pub row9 : remaining (list_of five 9 2 30) (after (1 ∷ 2 ∷ [])) ≡ (5 ∷ 7 ∷ []) ∷ (3 ∷ 8 ∷ []) ∷ (0 ∷ 6 ∷ []) ∷ []
  -- sum of 00 01 F2 03 F4 F5 F6 F7: DDF2h
  pub row10 : sum_of (0x00 ∷ 0x01 ∷ 0xF2 ∷ 0x03 ∷ 0xF4 ∷ 0xF5 ∷ 0xF6 ∷ 0xF7 ∷ []) ≡ 0xDDF2
  -- five, range [0,2), FF FF 05: Intact
  pub row11 : (limit : ℕ) → verdict (crc_of 53 0 0) first_two limit (0xFF ∷ 0xFF ∷ 0x05 ∷ []) ≡ intact
  -- 7F FF 05, N 1: lists {8},{23}; Repaired {23}
  pub row12 : (packet_list (crc_of 53 0 0) 1 (0x7F ∷ 0xFF ∷ 0x05 ∷ []) ≡ (8 ∷ []) ∷ (23 ∷ []) ∷ [])
      × (verdict (crc_of 53 0 0) first_two 1 (0x7F ∷ 0xFF ∷ 0x05 ∷ []) ≡ repaired (23 ∷ []))
  -- FF FF 06, N 1; N 2: None; Several, 2, {0,1}
  pub row13 : (verdict (crc_of 53 0 0) first_two 1 (0xFF ∷ 0xFF ∷ 0x06 ∷ []) ≡ nothing)
      × (verdict (crc_of 53 0 0) first_two 2 (0xFF ∷ 0xFF ∷ 0x06 ∷ []) ≡ several 2 (0 ∷ 1 ∷ []))
  -- five, one byte 00: I 31, F 0; I 0, F 31; both 31: remainders 25; 31; 6
  pub row14 : (remainder (crc_of 53 31 0) (0x00 ∷ []) ≡ 25) × (remainder (crc_of 53 0 31) (0x00 ∷ []) ≡ 31) × (remainder (crc_of 53 31 31) (0x00 ∷ []) ≡ 6)
  -- ccitt, the nine bytes of check values and two of zero: I FFFFh, F 0; both FFFFh; I 1D0Fh, F 0: 29B1h; D64Eh; E5CCh
  pub row15 : (remainder (crc_of 0x11021 0xFFFF 0) checked ≡ 0x29B1) × (remainder (crc_of 0x11021 0xFFFF 0xFFFF) checked ≡ 0xD64E)
      × (remainder (crc_of 0x11021 0x1D0F 0) checked ≡ 0xE5CC)
  -- ccitt, 41 00 00, both FFFFh: 46EAh
  pub row16 : remainder (crc_of 0x11021 0xFFFF 0xFFFF) (0x41 ∷ 0 ∷ 0 ∷ []) ≡ 0x46EA
  -- the stream from seed 0: its first four bytes, and the state after them: 3C 47 D1 AA; AAF95334h
  pub row17 : (yielded 4 0 ≡ 0x3C ∷ 0x47 ∷ 0xD1 ∷ 0xAA ∷ []) × (state_after 4 0 ≡ 0xAAF95334)
  -- ccitt, eight bytes made from seed 0, range [0,6), field 4: 3C 47 D1 AA F2 0D 52 37, state A3D95FA8h; with I FFFFh: .. 5C 27
  pub row18 : (make_packet (crc_of 0x11021 0 0) 0 (check_of 0 6 4) blank ≡ 0x3C ∷ 0x47 ∷ 0xD1 ∷ 0xAA ∷ 0xF2 ∷ 0x0D ∷ 0x52 ∷ 0x37 ∷ [])
      × (make_call (crc_of 0x11021 0 0) 0 (check_of 0 6 4) blank ≡ accepted 0xA3D95FA8)
      × (make_packet (crc_of 0x11021 0xFFFF 0) 0 (check_of 0 6 4) blank ≡ 0x3C ∷ 0x47 ∷ 0xD1 ∷ 0xAA ∷ 0xF2 ∷ 0x0D ∷ 0x5C ∷ 0x27 ∷ [])
  -- five, no second check, N 1: 7F FE 05; 7F FF 05; FF FD 05; FF FF 06: Intact; Several, 2, {8}; Repaired {9}; None
  pub row19 : ((limit : ℕ) → verdict (crc_of 53 0 0) no_check limit (0x7F ∷ 0xFE ∷ 0x05 ∷ []) ≡ intact)
      × (verdict (crc_of 53 0 0) no_check 1 (0x7F ∷ 0xFF ∷ 0x05 ∷ []) ≡ several 2 (8 ∷ []))
      × (verdict (crc_of 53 0 0) no_check 1 (0xFF ∷ 0xFD ∷ 0x05 ∷ []) ≡ repaired (9 ∷ []))
      × (verdict (crc_of 53 0 0) no_check 1 (0xFF ∷ 0xFF ∷ 0x06 ∷ []) ≡ nothing)
  -- five, FF FF 05 stamped with [2,2), field 2; [3,3), field 3; [1,0), field 0: refused by 10; 9; 9
  pub row20 : (stamp_call 53 (check_of 2 2 2) (0xFF ∷ 0xFF ∷ 0x05 ∷ []) ≡ refused 10) × (stamp_call 53 (check_of 3 3 3) (0xFF ∷ 0xFF ∷ 0x05 ∷ []) ≡ refused 9)
      × (stamp_call 53 (check_of 1 0 0) (0xFF ∷ 0xFF ∷ 0x05 ∷ []) ≡ refused 9)
  -- 9, range [0,2), 7F FF 02, N 2: lists {2,3} first; Several, 3, {6,23}
  pub row21 : (take 1 (packet_list (crc_of 9 0 0) 2 (0x7F ∷ 0xFF ∷ 0x02 ∷ [])) ≡ (2 ∷ 3 ∷ []) ∷ [])
      × (verdict (crc_of 9 0 0) first_two 2 (0x7F ∷ 0xFF ∷ 0x02 ∷ []) ≡ several 3 (6 ∷ 23 ∷ []))
  -- five, range [0,2), field 0: 00 00 00; 80 00 00, N 1: Intact; lists {8},{23}; Repaired {23}
  pub row22 : ((limit : ℕ) → verdict (crc_of 53 0 0) first_two limit (0x00 ∷ 0x00 ∷ 0x00 ∷ []) ≡ intact)
      × (packet_list (crc_of 53 0 0) 1 (0x80 ∷ 0x00 ∷ 0x00 ∷ []) ≡ (8 ∷ []) ∷ (23 ∷ []) ∷ [])
      × (verdict (crc_of 53 0 0) first_two 1 (0x80 ∷ 0x00 ∷ 0x00 ∷ []) ≡ repaired (23 ∷ []))
  -- five, FF FF 12 34 00 stamped with [0,4), field 2; field 0: FF FF FF FF 00; ED CB 12 34 00
  pub row23 : (stamp_packet 53 (check_of 0 4 2) (0xFF ∷ 0xFF ∷ 0x12 ∷ 0x34 ∷ 0x00 ∷ []) ≡ 0xFF ∷ 0xFF ∷ 0xFF ∷ 0xFF ∷ 0x00 ∷ [])
      × (stamp_packet 53 (check_of 0 4 0) (0xFF ∷ 0xFF ∷ 0x12 ∷ 0x34 ∷ 0x00 ∷ []) ≡ 0xED ∷ 0xCB ∷ 0x12 ∷ 0x34 ∷ 0x00 ∷ [])
  -- 13, N 3, syndrome 4, L 6: {2},{4,5},{0,3},{0,1,4},{1,3,5}
  pub row24 : list_of (generator_of 13) 6 3 4 ≡ (2 ∷ []) ∷ (4 ∷ 5 ∷ []) ∷ (0 ∷ 3 ∷ []) ∷ (0 ∷ 1 ∷ 4 ∷ []) ∷ (1 ∷ 3 ∷ 5 ∷ []) ∷ []
  -- eight draws from state 0, L 24: {2,4,7,10,14,15,17,21}
  pub row25 : drawn 24 8 0 ≡ 2 ∷ 4 ∷ 7 ∷ 10 ∷ 14 ∷ 15 ∷ 17 ∷ 21 ∷ []
  -- 11, three bytes, range [0,2), field 0, N 2, two trials from seed FFFFFFFFh: the rows; 3F963805h; EF 7E 79; FF FF 79
  pub row26 : simulated (crc_of 11 0 0) first_two 2 2 0xFFFFFFFF (0 ∷ 0 ∷ 0 ∷ []) (0 ∷ 0 ∷ 0 ∷ [])
      ≡ record {
        state = 0x3F963805;
        packet = 0xEF ∷ 0x7E ∷ 0x79 ∷ [];
        output = 0xFF ∷ 0xFF ∷ 0x79 ∷ [];
        counts =
            (2 ∷ 0 ∷ 0 ∷ 0 ∷ 0 ∷ []) ∷ (0 ∷ 1 ∷ 0 ∷ 1 ∷ 0 ∷ []) ∷ (0 ∷ 2 ∷ 0 ∷ 0 ∷ 0 ∷ []) ∷ (0 ∷ 0 ∷ 0 ∷ 0 ∷ 2 ∷ []) ∷ (0 ∷ 0 ∷ 1 ∷ 0 ∷ 1 ∷ [])
            ∷ (0 ∷ 0 ∷ 0 ∷ 0 ∷ 2 ∷ []) ∷ (0 ∷ 0 ∷ 0 ∷ 0 ∷ 2 ∷ []) ∷ (0 ∷ 0 ∷ 0 ∷ 0 ∷ 2 ∷ []) ∷ (0 ∷ 0 ∷ 0 ∷ 0 ∷ 2 ∷ []) ∷ [];
      }
