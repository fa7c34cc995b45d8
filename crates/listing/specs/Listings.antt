-- What the list in its order asks and tells: for inner functions alone.
use Rattle.std.specs.Prelude.{ℕ, ◌≤◌, List, Option, length}
use Rattle.base.specs.Lists.{Ascending}
use Rattle.patterns.specs.Patterns.{Point, start, ended, after}
use Rattle.patterns.specs.Listing.{listing}
use Rattle.patterns.specs.Order.{before}
use Rattle.search.specs.Search.{Told}
use Rattle.cursor.specs.declared.Cursor.{Cursor}

-- the list of a cursor's generator, length and syndrome, for a limit
abbrev pub listed_by : Cursor → ℕ → List (List ℕ)
listed_by c limit = listing c.generator.degree c.generator.coefficients (length c.powers.powers.now) limit c.syndrome

-- what is told of a search through `ahead`, a part of that list
abbrev pub ListTold : Cursor → ℕ → List (List ℕ) → Option ℕ → List ℕ → Type 0
ListTold c limit ahead r pos = Told before (length c.powers.powers.now) limit (listed_by c limit) ahead r pos

-- a mark from which a search for at most so many positions below l can go on
abbrev pub Marked : ℕ → ℕ → Point → Type 0
Marked l limit start = Unit {0}
Marked l limit ended = Unit {0}
Marked l limit (after ps) = Ascending l 0 ps × (length ps ≤ limit)
