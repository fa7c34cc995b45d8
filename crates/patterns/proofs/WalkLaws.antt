-- A walk meets every set of the list, and each once, for it ascends in an order of its own. What is met in any order is the list once it
-- is put in the list's.
use mathlib.Core.Path.{◌≡◌, refl, sym, ◌∙◌}
use mathlib.Core.Bool.{Bool, true}
use mathlib.Core.Logic.{◌↔◌}
use mathlib.Core.List.{List, ◌∷◌}
use Prim.Native.Nat.{ℕ, zero, suc, ◌+◌, ◌<◌}
use native.Mathlib.Omega.{arith}
use lib.Dec.{eqb}
use lib.ListN.{length}
use Rattle.base.specs.Lists.{In, Ascending, ends, next}
use Rattle.base.proofs.ListLaws.{in_nothing}
use Rattle.patterns.specs.Order.{lower, before}
use Rattle.patterns.specs.StrictOrder.{Sorted, empty, first, StrictTotal}
use Rattle.patterns.specs.Listing.{syndrome, choose, up_to, sift, in_order, listing}
use Rattle.patterns.specs.Walk.{by_positions, walk}
use Rattle.patterns.proofs.OrderLaws.{keyed_less, keyed-same, keyed-total, lower_less, lower-same, lower-total, before_strict_total}
use Rattle.patterns.proofs.MemberLaws.{map_in}
use Rattle.patterns.proofs.SiftLaws.{in_sift, sift_in}
use Rattle.patterns.proofs.SortedLaws.{sorted_append, sorted_map, sorted_by, sorted_sift, in_in_order, in_order_in, in_order_only}
use Rattle.patterns.proofs.ListingLaws.{choose_in, up_to_in, listing_sorted}

-- ---- the order of a walk ----

pub walk_order : StrictTotal by_positions
unfolding by_positions
walk_order = keyed-total length lower lower-total

pub fewer_first : (p q : List ℕ) → length p < length q → by_positions p q ≡ true
unfolding by_positions
fewer_first p q h = keyed_less length lower p q h

pub level_lower : (p q : List ℕ) → length p ≡ length q → by_positions p q ≡ lower p q
unfolding by_positions
level_lower p q h = keyed-same length lower p q h

-- ---- all sets, and those that pass a test ----

-- a set whose positions are all past `from` comes after one that has `from`
head_first : (from l k : ℕ) (ps qs : List ℕ) → Ascending l (suc from) qs → length qs ≡ suc k → lower (from ∷ ps) qs ≡ true
head_first from l k ps qs ends d = absurd (omega arith)
head_first from l k ps qs (next {p = q} {ps = rs} h _ a) d = lower_less from q ps rs h

pub choose_sorted : (room k from : ℕ) → Sorted lower (choose room k from)
unfolding choose
choose_sorted room zero from = first (λ y i. absurd (in_nothing i)) empty
choose_sorted zero (suc k) from = empty
choose_sorted (suc room) (suc k) from =
    sorted_append (sorted_map (λ (ps : List ℕ). from ∷ ps) (λ a b i j h. lower-same from a b ∙ h) (choose_sorted room k (suc from)))
    (choose_sorted room (suc k) (suc from))
    (λ x y i j.
    let r = map_in (λ (ps : List ℕ). from ∷ ps) (choose room k (suc from)) i in
    let b = choose_in room (suc k) (suc from) (suc from + room) refl y j in
    rw r.2 (head_first from (suc from + room) k r.0 y b.0 b.1))

-- they are of one count
choose_met : (room k from : ℕ) → Sorted by_positions (choose room k from)
choose_met room k from =
    sorted_by (λ a b i j t. level_lower a b (count a i ∙ sym (count b j)) ∙ t) (choose_sorted room k from)
  where
    count : (ps : List ℕ) → In ps (choose room k from) → length ps ≡ k
    count ps i = (choose_in room k from (from + room) refl ps i).1

up_to_sorted : (l limit : ℕ) → Sorted by_positions (up_to l limit)
unfolding up_to
up_to_sorted l zero = choose_met l 0 0
up_to_sorted l (suc limit) =
    sorted_append (up_to_sorted l limit) (choose_met l (suc limit) 0)
    (λ x y i j.
    let a = up_to_in l limit i in
    let b = choose_in l (suc limit) 0 l (omega arith) y j in
    fewer_first x y (omega arith))

pub sifted_sorted : (P : List ℕ → Bool) (l limit : ℕ) → Sorted by_positions (sift P (up_to l limit))
sifted_sorted P l limit = sorted_sift P (up_to_sorted l limit)

-- ---- the walk and the list ----

module _ (n g l limit s : ℕ) where
  pub walk_sorted : Sorted by_positions (walk n g l limit s)
  unfolding walk
  walk_sorted = sifted_sorted (λ ps. eqb (syndrome n g ps) s) l limit

  -- whatever order the listed sets are met in: those of them that pass a test are, put in the list's order, those of the list that do
  pub met_in_any_order : {xs : List (List ℕ)} → ((ps : List ℕ) → In ps xs ↔ In ps (listing n g l limit s))
      → (P : List ℕ → Bool) → in_order before (sift P xs) ≡ sift P (listing n g l limit s)
  met_in_any_order {xs} same P =
      sym (in_order_only before_strict_total (sorted_sift P (listing_sorted n g l limit s))
      (λ a i. let r = sift_in P (listing n g l limit s) i in in_sift P ((same a).1 r.0) r.1)
      (λ a i. let r = sift_in P xs i in in_sift P ((same a).0 r.0) r.1))

  -- a walk meets them all, and nothing else
  pub walk_meets : (ps : List ℕ) → In ps (walk n g l limit s) ↔ In ps (listing n g l limit s)
  unfolding listing walk
  walk_meets ps = (λ i. in_in_order before_strict_total i, λ i. in_order_in before_strict_total (sift (λ qs. eqb (syndrome n g qs) s) (up_to l limit)) i)
