-- What the generator's number of ones tells, for every degree: where it is even, a pattern's number of positions and its syndrome's
-- number of ones are both even or both odd; so the numbers of positions in one list differ by even numbers.
use mathlib.Core.Path.{◌≡◌, sym, ap, ◌∙◌}
use mathlib.Core.List.{List}
use Prim.Native.Nat.{ℕ, ◌-◌, ◌%◌}
use native.Mathlib.Omega.{arith}
use lib.Count.{ones}
use lib.ListN.{length}
use Rattle.base.specs.Lists.{In}
use Rattle.poly.specs.Polynomial.{powers}
use Rattle.poly.specs.Fit.{Divisor}
use Rattle.poly.proofs.ParityLaws.{parity_powers, parity_rem}
use Rattle.patterns.specs.Listing.{syndrome, listing}
use Rattle.patterns.proofs.ListingLaws.{listed_iff}

module _ (n g : ℕ) (d : Divisor n g) (even : ones g % 2 ≡ 0) where
  pub count_parity : (ps : List ℕ) → length ps % 2 ≡ ones (syndrome n g ps) % 2
  unfolding syndrome
  count_parity ps = sym (parity_rem n g d.low d.high even (powers ps) ∙ parity_powers ps)

  module _ (l limit s : ℕ) where
    pub listed_parity : (ps : List ℕ) → In ps (listing n g l limit s) → length ps % 2 ≡ ones s % 2
    listed_parity ps i = count_parity ps ∙ ap (λ (x : ℕ). ones x % 2) ((listed_iff n g l limit s ps).0 i).2

    pub counts_differ_by_even : (p q : List ℕ) → In p (listing n g l limit s) → In q (listing n g l limit s)
        → (length p - length q) % 2 ≡ 0
    counts_differ_by_even p q i j = omega (arith, listed_parity p i, listed_parity q j)
