-- What a list is asked for by: the list, and what a page asks of its query and tables, behind all conditions.
use Rattle.std.specs.Prelude.{ℕ, ◌^◌, ◌<◌, ◌≤◌, List}
use Rattle.poly.specs.Polynomial.{degree}
use Rattle.poly.specs.Generators.{generator_of}
use Rattle.tables.specs.declared.Tables.{Tables}
use Rattle.patterns.specs.Patterns.{most_positions, Point}
use Rattle.patterns.specs.Listing.{listing}
use Rattle.cursor.specs.Cursors.{RightTables}
use Rattle.listing.specs.Listings.{Marked}
use Rattle.paging.specs.declared.Query.{Query}

-- the list that is asked for
abbrev pub list_of : Query → List (List ℕ)
list_of r = listing (degree r.generator) r.generator r.bits r.limit r.syndrome

-- what a list is asked for by, by which tables, and from where on, once all conditions are past
pub record Listable (r : Query) (t : Tables) (mark : Point) : Type 0 where
  pub right : RightTables (generator_of r.generator) t.steps.now t.firsts.now
  pub short : r.bits ≤ 4096
  pub few : r.limit ≤ most_positions
  pub within : r.syndrome < 2 ^ degree r.generator
  pub marked : Marked r.bits r.limit mark
