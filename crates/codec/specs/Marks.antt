-- Marks as bytes, as many as the longest record has: FEh for Start, FFh for Ended, else the record of the pattern, with
-- zeros behind it.
use Rattle.std.specs.Prelude.{ℕ, ◌-◌, ◌<◌, ◌≡◌, List, [], ◌∷◌, ◌++◌, eqb, leb, length, get_or, replicate}
use Rattle.base.specs.Outcome.{pick}
use Rattle.patterns.specs.Patterns.{most_positions, Point, start, ended, after}
use Rattle.records.specs.Records.{record_of, longest_record, record_in}

-- what bytes that are no mark stand for: no set holds a position twice, so condition 7 refuses it, in its place among the conditions
abbrev pub malformed : Point
malformed = after (0 ∷ 0 ∷ [])

-- the mark that bytes of the right number give, by the first of them
abbrev pub point_by_kind : List ℕ → Point
point_by_kind s =
    pick (eqb (get_or s 0 0) 254) start
    (pick (eqb (get_or s 0 0) 255) ended
    (pick (leb (get_or s 0 0) most_positions) (after (record_in s)) malformed))

-- the mark that bytes give
unfoldable pub point_of_bytes : List ℕ → Point
point_of_bytes s = pick (eqb (length s) longest_record) (point_by_kind s) malformed

-- bytes that are no mark: more or fewer than a mark has, or with a first byte above the counts of positions and below FEh
pub data NoMark (s : List ℕ) : Type 0 where
  other_length : (length s ≡ longest_record → ⊥) → NoMark s
  other_first : most_positions < get_or s 0 0 → get_or s 0 0 < 254 → NoMark s

-- bytes with zeros behind them
abbrev pub padded : List ℕ → List ℕ
padded s = s ++ replicate (longest_record - length s) 0

-- the bytes of a mark
unfoldable pub mark_bytes : Point → List ℕ
mark_bytes start = padded (254 ∷ [])
mark_bytes ended = padded (255 ∷ [])
mark_bytes (after ps) = padded (record_of ps)
