-- What bytes count in the plain total of a range, and which totals pass: the laws of the second check go by these.
use Rattle.std.specs.Prelude.{ℕ, ◌-◌, ◌%◌, Bool, ◌&&◌, eqb, leb, ltb}
use Rattle.base.specs.Outcome.{pick}

-- whether a plain total is a positive multiple of FFFFh
unfoldable pub multiple : ℕ → Bool
multiple t = ltb 0 t && eqb (t % 65535) 0

-- what a byte counts in the total, by its place among the bytes: 256 as a word's high byte, 1 as its low byte
unfoldable pub word_weight : ℕ → ℕ
word_weight i = pick (eqb (i % 2) 0) 256 1

-- what byte i of the packet counts in the total of the range: nothing outside it
unfoldable pub share : ℕ → ℕ → ℕ → ℕ
share a e i = pick (leb a i && ltb i e) (word_weight (i - a)) 0
