-- The list of error patterns: every set of at most so many positions below l, with a given syndrome.
use Rattle.std.specs.Prelude.{ℕ, zero, suc, ◌^◌, Bool, true, false, ◌&&◌, ◌||◌, List, [], ◌∷◌, ◌++◌, map, eqb, ltb, leb}
use Rattle.base.specs.Outcome.{pick}
use Rattle.poly.specs.Polynomial.{rem, powers}
use Rattle.patterns.specs.Patterns.{most_positions, Point, start, ended, after}
use Rattle.patterns.specs.Order.{before}

-- are these strictly ascending positions, from `from` on and below l?
unfoldable pub ascending : ℕ → ℕ → List ℕ → Bool
ascending l from [] = true
ascending l from (p ∷ ps) = leb from p && (ltb p l && ascending l (suc p) ps)

-- the syndrome of a set of positions, for a generator g of degree n
unfoldable pub syndrome : ℕ → ℕ → List ℕ → ℕ
syndrome n g ps = rem n g (powers ps)

-- all sets of k positions among the `room` positions from `from` on
unfoldable pub choose : ℕ → ℕ → ℕ → List (List ℕ)
choose room zero from = [] ∷ []
choose zero (suc k) from = []
choose (suc room) (suc k) from = map (λ ps. from ∷ ps) (choose room k (suc from)) ++ choose room (suc k) (suc from)

-- all sets of at most so many positions below l
unfoldable pub up_to : ℕ → ℕ → List (List ℕ)
up_to l zero = choose l zero zero
up_to l (suc limit) = up_to l limit ++ choose l (suc limit) zero

-- those members of a list that pass a test, in their order
unfoldable pub sift : {A : Type 0} → (A → Bool) → List A → List A
sift P [] = []
sift P (x ∷ xs) = pick (P x) (x ∷ sift P xs) (sift P xs)

-- x in its place in a list that ascends in an order, once
unfoldable pub inserted : {A : Type 0} → (A → A → Bool) → A → List A → List A
inserted R x [] = x ∷ []
inserted R x (y ∷ ys) = pick (R x y) (x ∷ y ∷ ys) (pick (R y x) (y ∷ inserted R x ys) (y ∷ ys))

-- the members of a list, each once, in an order
unfoldable pub in_order : {A : Type 0} → (A → A → Bool) → List A → List A
in_order R [] = []
in_order R (x ∷ xs) = inserted R x (in_order R xs)

-- the list for a generator g of degree n, l bits, a limit and a syndrome s: of all sets those of this syndrome, in the order
unfoldable pub listing : ℕ → ℕ → ℕ → ℕ → ℕ → List (List ℕ)
listing n g l limit s = in_order before (sift (λ ps. eqb (syndrome n g ps) s) (up_to l limit))

-- condition 3: the limit is 0 or above the most positions
unfoldable pub unfit_limit : ℕ → Bool
unfit_limit limit = eqb limit 0 || ltb most_positions limit

-- condition 4, for a generator of degree n: the syndrome is 2^n or more
unfoldable pub unfit_syndrome : ℕ → ℕ → Bool
unfit_syndrome n s = leb (2 ^ n) s

-- does a pattern follow a mark?
unfoldable pub follows : Point → List ℕ → Bool
follows start ps = true
follows ended ps = false
follows (after p) ps = before p ps
