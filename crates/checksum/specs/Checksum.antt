-- The sum of RFC 1071 over a range of packet bytes, the second check by range and field, and the stamp. What a field of 0 says, and
-- what is written for a computed 0, is the rule of RFC 768.
use Rattle.std.specs.Prelude.{ℕ, zero, suc, ◌+◌, ◌-◌, ◌*◌, ◌/◌, ◌%◌, Bool, ◌||◌, List, [], ◌∷◌, eqb, ltb, get_or, take, drop, set}
use Rattle.checksum.specs.declared.Check.{Check}

-- the 16-bit words of bytes, high byte first, with a zero byte added to an odd end
unfoldable pub words : List ℕ → List ℕ
words [] = []
words (h ∷ []) = (h * 256 + 0) ∷ []
words (h ∷ l ∷ s) = (h * 256 + l) ∷ words s

-- a total with the carry out of sixteen bits added back in
unfoldable pub folded : ℕ → ℕ
folded t = t % 65536 + t / 65536

-- the sum of words, r being the sum of those before them
unfoldable pub sum_from : ℕ → List ℕ → ℕ
sum_from r [] = r
sum_from r (w ∷ ws) = sum_from (folded (r + w)) ws

-- the sum of bytes
unfoldable pub sum_of : List ℕ → ℕ
sum_of s = sum_from 0 (words s)

-- ---- the same as arithmetic; SumLaws has that the sum of bytes is their total, reduced ----

-- the plain total of words
unfoldable pub plain : List ℕ → ℕ
plain [] = 0
plain (w ∷ ws) = w + plain ws

-- the plain total of the words of bytes
unfoldable pub total : List ℕ → ℕ
total s = plain (words s)

-- a total modulo FFFFh, as ones' complement has it: 0 for 0 alone, and FFFFh for any other multiple
unfoldable pub reduced : ℕ → ℕ
reduced zero = 0
reduced (suc t) = suc (t % 65535)

-- ---- the second check ----

-- the bytes of the range [a, e)
unfoldable pub range : ℕ → ℕ → List ℕ → List ℕ
range a e s = take (e - a) (drop a s)

-- the check of the range from `from` on and before `to`, whose field stands at `field`; where both ends are one place there is
-- no second check, and no field
abbrev pub check_of : ℕ → ℕ → ℕ → Check
check_of from to field = record { from = from; to = to; field = field }

-- the number in the two bytes of the field, high byte first
unfoldable pub field_of : ℕ → List ℕ → ℕ
field_of f s = get_or s f 0 * 256 + get_or s (f + 1) 0

-- whether a packet passes the second check: there is none, its field says that no checksum was made, or the sum of its range
-- is FFFFh
unfoldable pub passes : Check → List ℕ → Bool
passes k s = eqb k.from k.to || eqb (field_of k.field s) 0 || eqb (sum_of (range k.from k.to s)) 65535

-- condition 9, for a generator of degree n and a packet of l bits: the range ends before its start or reaches into the CRC
unfoldable pub unfit_range : ℕ → ℕ → Check → Bool
unfit_range n l k = ltb k.to k.from || ltb l (8 * k.to + n)

-- condition 10: the field is not wholly in the range, or stands at an odd distance from its start
unfoldable pub unfit_field : Check → Bool
unfit_field k = ltb k.field k.from || ltb k.to (k.field + 2) || eqb ((k.field - k.from) % 2) 1

-- ---- the stamp ----

-- the packet with v in the two bytes of the field, high byte first
unfoldable pub with_field : ℕ → ℕ → List ℕ → List ℕ
with_field f v s = set (set s f (v / 256)) (f + 1) (v % 256)

-- what is written for a number computed: FFFFh for 0, since a field of 0 says that no checksum was made
unfoldable pub as_written : ℕ → ℕ
as_written zero = 65535
as_written (suc v) = suc v

-- the packet whose field holds what the sum of the range, without the field, lacks to FFFFh, as it is written
unfoldable pub stamped : Check → List ℕ → List ℕ
stamped k s = with_field k.field (as_written (65535 - sum_of (range k.from k.to (with_field k.field 0 s)))) s
