-- What a mark leaves of a list, and when a mark is unfit.
use Rattle.std.specs.Prelude.{ℕ, zero, Bool, false, not, ◌||◌, List, ltb, length}
use Rattle.patterns.specs.Patterns.{Point, start, ended, after}
use Rattle.patterns.specs.Listing.{ascending, sift, follows}

-- the patterns of a list that follow a mark, in their order
abbrev pub remaining : List (List ℕ) → Point → List (List ℕ)
remaining xs mark = sift (follows mark) xs

-- a pattern that is not strictly ascending or has a position of l or more, or one of too many positions
unfoldable pub unfit_pattern : ℕ → ℕ → List ℕ → Bool
unfit_pattern l limit ps = ltb limit (length ps) || not (ascending l zero ps)

-- condition 7: the mark's pattern is one
abbrev pub unfit_mark : ℕ → ℕ → Point → Bool
unfit_mark l limit start = false
unfit_mark l limit ended = false
unfit_mark l limit (after ps) = unfit_pattern l limit ps
