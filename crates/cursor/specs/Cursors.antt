-- What a cursor asks and tells: for inner functions alone.
use Rattle.std.specs.Prelude.{◌≡◌, Bool, ℕ, ◌≤◌, List, [], ◌∷◌, Option, Some, None, length, take}
use Rattle.base.specs.Lists.{Ascending}
use Rattle.poly.specs.Fit.{Fit}
use Rattle.poly.specs.declared.Generator.{Generator}
use Rattle.tables.specs.Tables.{power, values, period, step_table, first_table}
use Rattle.patterns.specs.Listing.{sift}
use Rattle.patterns.specs.Walk.{by_positions, walk}
use Rattle.placing.specs.Placing.{ReadyFor, Describes}
use Rattle.placing.specs.declared.Powers.{Powers}
use Rattle.search.specs.Search.{Told}
use Rattle.cursor.specs.declared.Cursor.{Cursor}

-- an accepted generator, with tables that are right
pub record RightTables (g : Generator) (steps firsts : List ℕ) : Type 0 where
  pub fit : Fit g
  pub right_steps : steps ≡ step_table g.degree g.coefficients
  pub right_firsts : firsts ≡ first_table g.degree g.coefficients

-- the powers of x below l, the first positions and the period of a generator: they serve every syndrome
pub record Serves (g : Generator) (l : ℕ) (pow firsts : List ℕ) (round : ℕ) : Type 0 where
  pub fit : Fit g
  pub short : l ≤ 4096
  pub powers : pow ≡ values (power g.degree g.coefficients) l 0
  pub right_firsts : firsts ≡ first_table g.degree g.coefficients
  pub turns : round ≡ period g.degree g.coefficients

-- the same of tables that are lent as one
abbrev pub ServedBy : Generator → ℕ → Powers → Type 0
ServedBy g l t = Serves g l t.powers.now t.firsts.now t.period

-- the powers and first positions of a cursor serve it
pub record Prepared (c : Cursor) : Type 0 where
  pub fit : Fit c.generator
  pub ready : ReadyFor c.powers 0 c.syndrome
  pub lookup : Describes (power c.generator.degree c.generator.coefficients) c.powers

-- what it meets, for l bits and a limit
abbrev pub walked_by : Cursor → ℕ → ℕ → List (List ℕ)
walked_by c l limit = walk c.generator.degree c.generator.coefficients l limit c.syndrome

-- positions in front of a slice that a search can go on from
abbrev pub InFront : ℕ → ℕ → List ℕ → Type 0
InFront l count pos = (count ≤ length pos) × Ascending l 0 (take count pos)

abbrev pub FoundFits : ℕ → Option ℕ → List ℕ → Type 0
FoundFits l (Some k) pos = InFront l k pos
FoundFits l None pos = Unit {0}

-- the patterns of a list, in the order R, from the one found on
abbrev pub ahead_of : (List ℕ → List ℕ → Bool) → List (List ℕ) → Option ℕ → List ℕ → List (List ℕ)
ahead_of R list (Some k) pos = take k pos ∷ sift (R (take k pos)) list
ahead_of R list None pos = []

-- what is told of the first set that a cursor meets, and of the first after the positions p
abbrev pub FirstMet : Cursor → ℕ → Option ℕ → List ℕ → Type 0
FirstMet c limit r pos =
    Told by_positions (length c.powers.powers.now) limit (walked_by c (length c.powers.powers.now) limit) (walked_by c (length c.powers.powers.now) limit) r pos

abbrev pub NextMet : Cursor → ℕ → List ℕ → Option ℕ → List ℕ → Type 0
NextMet c limit p r pos =
    Told by_positions (length c.powers.powers.now) limit (walked_by c (length c.powers.powers.now) limit) (sift (by_positions p) (walked_by c (length c.powers.powers.now) limit)) r pos
