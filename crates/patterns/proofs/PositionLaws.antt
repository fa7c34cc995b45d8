-- What an array holds of a pattern, and one step of the test whether positions ascend.
use mathlib.Core.Path.{◌≡◌}
use mathlib.Core.Bool.{true, false}
use mathlib.Core.List.{List}
use Prim.Native.Nat.{ℕ, ◌+◌, ◌-◌, ◌<◌, ◌≤◌}
use native.Mathlib.Omega.{arith}
use native.Mathlib.Numerals.{add-one}
use borrow.Author.Tests.{le-leb, lt-leb, lt-ltb, le-ltb}
use lib.ListN.{length, take, drop, get_or, replicate, drop_of_length-le, length-append, length-replicate}
use lib.Seq.{drop-cons, take-append_seam}
use Rattle.patterns.specs.declared.Pattern.{Pattern}
use Rattle.patterns.specs.declared.Pattern.TheVariants.{Empty, One, Two, Three, Four}
use Rattle.patterns.specs.Patterns.{most_positions, positions}
use Rattle.patterns.specs.Slices.{spread_out}
use Rattle.patterns.specs.Listing.{ascending}

-- ---- do positions ascend? ----

module _ (l from : ℕ) (ps : List ℕ) (i : ℕ) (h : i < length ps) where
  pub ascending_below : get_or ps i 0 < from → ascending l from (drop i ps) ≡ false
  unfolding ascending
  ascending_below k = rw (drop-cons ps i 0 h, lt-leb from (get_or ps i 0) k)

  pub ascending_beyond : from ≤ get_or ps i 0 → l ≤ get_or ps i 0 → ascending l from (drop i ps) ≡ false
  unfolding ascending
  ascending_beyond j k = rw (drop-cons ps i 0 h, le-leb from (get_or ps i 0) j, le-ltb (get_or ps i 0) l k)

  pub ascending_step : from ≤ get_or ps i 0 → get_or ps i 0 < l → (next : ℕ) → next ≡ get_or ps i 0 + 1 → ascending l next (drop (i + 1) ps) ≡ ascending l from (drop i ps)
  unfolding ascending
  ascending_step j k next e = rw (e, drop-cons ps i 0 h, le-leb from (get_or ps i 0) j, lt-ltb (get_or ps i 0) l k, add-one (get_or ps i 0), add-one i)

pub ascending_end : (l from : ℕ) (ps : List ℕ) (i : ℕ) → length ps ≤ i → ascending l from (drop i ps) ≡ true
unfolding ascending
ascending_end l from ps i h = rw (drop_of_length-le ps h)

-- ---- a pattern's positions ----

pub positions_most : (p : Pattern) → length (positions p) ≤ most_positions
positions_most Empty = omega arith
positions_most (One a) = omega arith
positions_most (Two a b) = omega arith
positions_most (Three a b c) = omega arith
positions_most (Four a b c d) = omega arith

-- what `spread` lays out
module _ (ps held : List ℕ) (e : held ≡ spread_out ps) where
  pub spread_take : take (length ps) held ≡ ps
  spread_take = rw e (take-append_seam ps (replicate (most_positions - length ps) 0))

  spread_length : length ps ≤ most_positions → length held ≡ most_positions
  spread_length h = rw e (simp (length-append, length-replicate) (omega arith))

-- it holds all of a pattern's positions, and the first of it, as many as are counted, are they
module _ (p : Pattern) {held : List ℕ} {n : ℕ} (e : held ≡ spread_out (positions p)) (counted : n ≡ length (positions p)) where
  pub spread_holds : n ≤ length held
  spread_holds = let few = positions_most p in omega (arith, spread_length (positions p) held e few)

  pub spread_held : take n held ≡ positions p
  spread_held = rw counted (spread_take (positions p) held e)
