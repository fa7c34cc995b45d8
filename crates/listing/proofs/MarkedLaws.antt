-- A mark that the conditions let pass.
use mathlib.Core.Path.{◌≡◌}
use mathlib.Core.Bool.{false}
use Prim.Native.Nat.{ℕ}
use Rattle.patterns.specs.Patterns.{Point, start, ended, after}
use Rattle.patterns.specs.Marks.{unfit_mark}
use Rattle.patterns.proofs.MarkLaws.{fit_iff}
use Rattle.listing.specs.Listings.{Marked}

-- a mark that condition 7 lets pass
pub fit_mark : (l limit : ℕ) (m : Point) → unfit_mark l limit m ≡ false → Marked l limit m
fit_mark l limit start e = tt
fit_mark l limit ended e = tt
fit_mark l limit (after ps) e = (fit_iff l limit ps).0 e
