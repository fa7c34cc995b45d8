-- What parity tells a search. Where every power has an odd number of ones, that of a sum of powers is even or odd as their number
-- is; so a count of positions that is ruled out has no set of the sum looked for.
use mathlib.Core.Path.{◌≡◌, refl, sym, ap, ◌∙◌}
use mathlib.Core.Bool.{true, true≢false}
use mathlib.Core.List.{List, []}
use Prim.Native.Nat.{ℕ, zero, ◌%◌, ◌<◌}
use native.Mathlib.Omega.{arith}
use lib.Count.{ones}
use lib.Dec.{eqb}
use lib.ListN.{length}
use borrow.Author.Tests.{eqb-true, eq-eqb, ne_eqb}
use Rattle.base.specs.Lists.{Ascending, ends, next}
use Rattle.poly.proofs.ParityLaws.{ones_zero, parity_xor}
use Rattle.patterns.specs.Order.{lower}
use Rattle.patterns.specs.Listing.{choose, sift}
use Rattle.patterns.proofs.SiftLaws.{sift_none}
use Rattle.patterns.proofs.ListingLaws.{choose_in}
use Rattle.placing.specs.Placing.{xor_all, summing, headless, head_of, first_from, first_after, Lookup}
use Rattle.search.specs.Search.{OddOnes, ruled_out}
use Rattle.placing.proofs.HeadLaws.{head_nil, first_from_whole}

sum_parity : (power : ℕ → ℕ) {l from : ℕ} {ps : List ℕ} → ((p : ℕ) → p < l → ones (power p) % 2 ≡ 1)
    → Ascending l from ps → length ps % 2 ≡ ones (xor_all power ps) % 2
unfolding xor_all
sum_parity power odd ends = omega (arith, ones_zero)
sum_parity power odd (next {p = p} {ps = ps} h b a) = omega (arith, sum_parity power odd a, odd p b, parity_xor (power p) (xor_all power ps))

module _ (g k u : ℕ) (out : ruled_out g k u ≡ true) where
  out_apart : k % 2 ≡ ones u % 2 → ⊥
  unfolding ruled_out
  out_apart h = true≢false (sym out ∙ rw (eq-eqb _ _ h) refl)

  out_even : ones g % 2 ≡ 0
  unfolding ruled_out
  out_even = eqb-true _ _ (rw (ne_eqb (k % 2) (ones u % 2) out_apart) at out)

  module _ {power : ℕ → ℕ} {pow first : List ℕ} {period : ℕ} (t : Lookup power pow first period) (odd : OddOnes g pow) where
    none_summing : summing power u (choose (length pow) k zero) ≡ []
    unfolding summing
    none_summing =
        sift_none (λ ps. eqb (xor_all power ps) u) (choose (length pow) k zero)
        (λ ps i.
        let a = choose_in (length pow) k zero (length pow) (omega arith) ps i in
        ne_eqb (xor_all power ps) u
        (λ e. out_apart
        (ap (λ (j : ℕ). j % 2) (sym a.1)
        ∙ sum_parity power (λ p h. rw (← t.known p h) (odd out_even p h)) a.0
        ∙ ap (λ (x : ℕ). ones x % 2) e)))

    pub none_placed : first_from power (length pow) k 0 u ≡ headless
    none_placed = first_from_whole power (length pow) k u ∙ ap head_of none_summing ∙ head_nil

    pub none_after : (ps : List ℕ) → length ps ≡ k → first_after power (length pow) ps u ≡ headless
    unfolding first_after sift
    none_after ps e =
        ap (λ (j : ℕ). head_of (sift (lower ps) (summing power u (choose (length pow) j zero)))) e
        ∙ ap (λ (xs : List (List ℕ)). head_of (sift (lower ps) xs)) none_summing
        ∙ head_nil
