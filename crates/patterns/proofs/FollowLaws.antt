-- What is left of an ascending list after a mark. One law serves every kind of mark: what follows a follower follows.
use mathlib.Core.Path.{◌≡◌, refl}
use mathlib.Core.Bool.{true}
use mathlib.Core.List.{List, [], ◌∷◌}
use Prim.Native.Nat.{ℕ}
use Rattle.patterns.specs.Patterns.{Point, start, ended, after}
use Rattle.patterns.specs.Order.{before}
use Rattle.patterns.specs.StrictOrder.{Sorted}
use Rattle.patterns.specs.Listing.{follows}
use Rattle.patterns.specs.Marks.{remaining}
use Rattle.patterns.proofs.OrderLaws.{before_strict_total}
use Rattle.patterns.proofs.SiftLaws.{sift_all, sift_none}
use Rattle.patterns.proofs.SortedLaws.{sorted_next}

follows_on : (m : Point) (p q : List ℕ) → follows m p ≡ true → before p q ≡ true → follows m q ≡ true
unfolding follows
follows_on start p q h k = refl
follows_on ended p q h k = h
follows_on (after m) p q h k = before_strict_total.transitive m p q h k

pub remaining_start : (xs : List (List ℕ)) → remaining xs start ≡ xs
unfolding follows
remaining_start xs = sift_all (follows start) xs (λ a i. refl)

pub remaining_ended : (xs : List (List ℕ)) → remaining xs ended ≡ []
unfolding follows
remaining_ended xs = sift_none (follows ended) xs (λ a i. refl)

module _ {xs : List (List ℕ)} (sorted : Sorted before xs) where
  -- the first that follows a mark, and then what follows that one
  pub remaining_next : (m : Point) (q : List ℕ) (rest : List (List ℕ)) → remaining xs m ≡ q ∷ rest → remaining xs (after q) ≡ rest
  unfolding follows
  remaining_next m q rest e = sorted_next before_strict_total (follows m) (follows_on m) sorted q rest e
