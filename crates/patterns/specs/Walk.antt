-- A walk through the patterns: which sets are met, and in which order. It meets the sets of the list, each once, in the order that
-- suits a search; the list's own order is another definition. What is said here need not be believed.
use Rattle.std.specs.Prelude.{ℕ, Bool, List, eqb, length}
use Rattle.patterns.specs.Order.{keyed, lower}
use Rattle.patterns.specs.Listing.{syndrome, up_to, sift}

-- small sets are met before large ones, and those of one size by their positions
unfoldable pub by_positions : List ℕ → List ℕ → Bool
by_positions = keyed length lower

-- the sets of the list for a generator g of degree n, l bits, a limit and a syndrome s, as they are met
unfoldable pub walk : ℕ → ℕ → ℕ → ℕ → ℕ → List (List ℕ)
walk n g l limit s = sift (λ ps. eqb (syndrome n g ps) s) (up_to l limit)
