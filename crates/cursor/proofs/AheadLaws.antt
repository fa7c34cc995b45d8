-- What is told of a search through a list in an order R: how the list goes on, and that the search can.
use mathlib.Core.Path.{◌≡◌, refl, subst, subst₂}
use mathlib.Core.Bool.{Bool}
use mathlib.Core.List.{List}
use Rattle.std.proofs.Common.{Option, Some, None}
use Prim.Native.Nat.{ℕ, ◌≤◌}
use native.Mathlib.Omega.{arith}
use lib.ListN.{length}
use Rattle.patterns.specs.Listing.{sift}
use Rattle.search.specs.Search.{Told}
use Rattle.cursor.specs.Cursors.{FoundFits, ahead_of}

module _ (R : List ℕ → List ℕ → Bool) where
  -- told of a list that depends on the limit, for equal limits and positions
  pub told_from : (list : ℕ → List (List ℕ)) (l : ℕ) {m k : ℕ} {p q : List ℕ} (r : Option ℕ) (pos : List ℕ) → m ≡ k → p ≡ q
      → Told R l m (list m) (sift (R p) (list m)) r pos → Told R l k (list k) (sift (R q) (list k)) r pos
  told_from list l r pos e f h = subst₂ (λ (i : ℕ) (t : List ℕ). Told R l i (list i) (sift (R t) (list i)) r pos) e f h

  pub told_ahead : (l m : ℕ) (list ahead : List (List ℕ)) (r : Option ℕ) (pos : List ℕ) → Told R l m list ahead r pos → ahead ≡ ahead_of R list r pos
  told_ahead l m list ahead (Some k) pos h = h.0.split
  told_ahead l m list ahead None pos h = h

  pub told_fits : (l m : ℕ) (list ahead : List (List ℕ)) (r : Option ℕ) (pos : List ℕ) → Told R l m list ahead r pos → m ≤ length pos → FoundFits l r pos
  told_fits l m list ahead (Some k) pos h e = (omega (arith, h.1), h.0.ascends)
  told_fits l m list ahead None pos h e = tt

  -- and the other way round
  pub told_ahead_of : (l m : ℕ) (xs : List (List ℕ)) (r : Option ℕ) (pos : List ℕ) → FoundFits l r pos → length pos ≡ m → Told R l m xs (ahead_of R xs r pos) r pos
  told_ahead_of l m xs (Some k) pos h e = (record { split = refl; ascends = h.1 }, omega (arith, h.0))
  told_ahead_of l m xs None pos h e = refl

  pub told_along : (l m : ℕ) (list : List (List ℕ)) (r : Option ℕ) (pos : List ℕ) {ahead beyond : List (List ℕ)} → ahead ≡ beyond → Told R l m list ahead r pos → Told R l m list beyond r pos
  told_along l m list r pos e h = subst (λ (t : List (List ℕ)). Told R l m list t r pos) e h
