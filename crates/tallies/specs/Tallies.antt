-- What a tally tells: for inner functions alone.
use Rattle.std.specs.Prelude.{◌≡◌, List, [], ◌∷◌, ℕ, Option, Some, None, length}
use Rattle.std.specs.Option.{option_map}
use Rattle.packet.specs.Packet.{bits, flips}
use Rattle.checksum.specs.Checksum.{passes}
use Rattle.weighing.specs.Totals.{Weighs}
use Rattle.weighing.specs.declared.Weighed.{Weighed}
use Rattle.patterns.specs.Patterns.{positions}
use Rattle.patterns.specs.Listing.{listing, sift}
use Rattle.cursor.specs.Cursors.{Prepared, walked_by}
use Rattle.cursor.specs.declared.Cursor.{Cursor}
use Rattle.tallies.specs.declared.Tally.{Tally}

-- a cursor over the sets of a packet that was weighed
pub record Candidates (c : Cursor) (w : Weighed) : Type 0 where
  pub prepared : Prepared c
  pub weighs : Weighs w
  pub long : length c.powers.powers.now ≡ bits w.packet.now

-- the sets that a cursor meets, in the order in which it meets them
abbrev pub met_by : Cursor → ℕ → List (List ℕ)
met_by c limit = walked_by c (length c.powers.powers.now) limit

-- and in the order of the list
abbrev pub listed_by : Cursor → ℕ → List (List ℕ)
listed_by c limit = listing c.generator.degree c.generator.coefficients (length c.powers.powers.now) limit c.syndrome

-- those of some sets whose flips lead to a packet that passes
abbrev pub passing : Weighed → List (List ℕ) → List (List ℕ)
passing w xs = sift (λ ps. passes w.check (flips w.packet.now ps)) xs

-- the first of some patterns, if there is one
abbrev pub first_of : List (List ℕ) → Option (List ℕ)
first_of [] = None
first_of (p ∷ ps) = Some p

-- a tally of some patterns: how many there are, and the first
pub record Tallied (kept : List (List ℕ)) (t : Tally) : Type 0 where
  pub number : t.count ≡ length kept
  pub first : option_map positions t.earliest ≡ first_of kept
