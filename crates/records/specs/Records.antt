-- Records as bytes, and patterns read back from them.
use Rattle.std.specs.Prelude.{ℕ, zero, suc, ◌+◌, ◌*◌, ◌/◌, ◌%◌, List, [], ◌∷◌, ◌++◌, leb, length, get_or, drop}
use Rattle.base.specs.Outcome.{pick}
use Rattle.patterns.specs.Patterns.{most_positions}

-- two bytes for each position, high byte first
unfoldable pub position_bytes : List ℕ → List ℕ
position_bytes [] = []
position_bytes (p ∷ ps) = p / 256 ∷ p % 256 ∷ position_bytes ps

-- a record: the byte of kind, which is the count, and the positions
unfoldable pub record_of : List ℕ → List ℕ
record_of ps = length ps ∷ position_bytes ps

-- the records of several patterns, one after the other
unfoldable pub records : List (List ℕ) → List ℕ
records [] = []
records (p ∷ ps) = record_of p ++ records ps

-- the bytes of the longest record
abbrev pub longest_record : ℕ
longest_record = 1 + 2 * most_positions

-- ---- reading ----

-- so many positions, from the start of some bytes
unfoldable pub positions_in : ℕ → List ℕ → List ℕ
positions_in zero bs = []
positions_in (suc k) bs = (get_or bs 0 0 * 256 + get_or bs 1 0) ∷ positions_in k (drop 2 bs)

-- the pattern whose record stands at the start of some bytes
abbrev pub record_in : List ℕ → List ℕ
record_in bs = positions_in (get_or bs 0 0) (drop 1 bs)

-- at most `most` whole records at the start of some bytes, as patterns
unfoldable pub patterns_from : ℕ → List ℕ → List (List ℕ)
patterns_from zero bs = []
patterns_from (suc most) [] = []
patterns_from (suc most) (k ∷ bs) =
    pick (leb (2 * k) (length bs)) (positions_in k bs ∷ patterns_from most (drop (2 * k) bs)) []

-- the patterns whose records stand in some bytes; RecordLaws has that these are xs where the bytes are records xs
unfoldable pub patterns_in : List ℕ → List (List ℕ)
patterns_in bs = patterns_from (length bs) bs
