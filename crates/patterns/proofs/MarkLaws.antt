-- Condition 7: a mark's pattern is fit exactly when it could be listed for some syndrome; and what conditions 3 and 4 leave.
use mathlib.Core.Path.{◌≡◌, sym, ap, ◌∙◌}
use mathlib.Core.Bool.{true, false, true≢false, not, or-true}
use mathlib.Core.Logic.{◌↔◌}
use mathlib.Core.List.{List}
use Prim.Native.Nat.{ℕ, ◌^◌, ◌<◌, ◌≤◌}
use borrow.Author.Tests.{le-leb, lt-ltb, le-ltb, ltb-true, ltb-false, not-false}
use lib.Dec.{ltb}
use lib.ListN.{length}
use Rattle.base.specs.Lists.{Ascending}
use Rattle.base.proofs.Cases.{by_test, by_order}
use Rattle.patterns.specs.Patterns.{most_positions}
use Rattle.patterns.specs.Listing.{ascending, unfit_limit, unfit_syndrome}
use Rattle.patterns.specs.Marks.{unfit_pattern}
use Rattle.patterns.proofs.ListingLaws.{ascending_true, true_ascending}

module _ (l limit : ℕ) (ps : List ℕ) where
  pub many_unfit : limit < length ps → unfit_pattern l limit ps ≡ true
  unfolding unfit_pattern
  many_unfit h = rw (lt-ltb limit (length ps) h)

  pub few_unfit : length ps ≤ limit → unfit_pattern l limit ps ≡ not (ascending l 0 ps)
  unfolding unfit_pattern
  few_unfit h = rw (le-ltb limit (length ps) h)

  pub fit_iff : (unfit_pattern l limit ps ≡ false) ↔ (Ascending l 0 ps × (length ps ≤ limit))
  fit_iff = (
    λ e.
        by_test (ltb limit (length ps)) (λ t. absurd (true≢false (sym (many_unfit (ltb-true limit (length ps) t)) ∙ e)))
        (λ t.
        let h = ltb-false limit (length ps) t in
        (ascending_true l 0 ps (not-false (ascending l 0 ps) (sym (few_unfit h) ∙ e)), h)),
    λ h. few_unfit h.1 ∙ ap not (true_ascending h.0),
  )

-- ---- conditions 3 and 4 ----

pub fit_limit : (limit : ℕ) → unfit_limit limit ≡ false → limit ≤ most_positions
unfolding unfit_limit
fit_limit limit e = by_order most_positions limit (λ h. absurd (true≢false (sym (simp (lt-ltb most_positions limit h, or-true)) ∙ e))) (λ h. h)

pub fit_syndrome : (n s : ℕ) → unfit_syndrome n s ≡ false → s < 2 ^ n
unfolding unfit_syndrome
fit_syndrome n s e = by_order s (2 ^ n) (λ h. h) (λ h. absurd (true≢false (sym (le-leb (2 ^ n) s h) ∙ e)))
