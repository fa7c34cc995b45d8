-- Conditions 9 and 10 by their parts, and what is known of a range and a field where neither applies.
use mathlib.Core.Path.{◌≡◌, sym, ◌∙◌}
use mathlib.Core.Bool.{true, false, true≢false, or-true}
use Prim.Native.Nat.{ℕ, ◌+◌, ◌-◌, ◌*◌, ◌%◌, ◌<◌, ◌≤◌}
use native.Mathlib.Omega.{arith}
use borrow.Author.Tests.{lt-ltb, le-ltb, ltb-true, ltb-false, eqb-false}
use lib.Dec.{eqb, ltb}
use Rattle.base.proofs.Cases.{by_test, by_order}
use Rattle.checksum.specs.Checksum.{unfit_range, unfit_field}
use Rattle.checksum.specs.declared.Check.{Check}

module _ (n l : ℕ) (k : Check) where
  backward_unfit : k.to < k.from → unfit_range n l k ≡ true
  unfolding unfit_range
  backward_unfit h = simp (lt-ltb _ _ h)

  pub range-unfit : k.from ≤ k.to → unfit_range n l k ≡ ltb l (8 * k.to + n)
  unfolding unfit_range
  range-unfit h = simp (le-ltb _ _ h)

  -- a range that condition 9 lets pass
  pub record FitRange : Type 0 where
    pub ordered : k.from ≤ k.to
    pub whole : 8 * k.to + n ≤ l

  pub fit_range : unfit_range n l k ≡ false → FitRange
  fit_range h =
      by_test (ltb k.to k.from) (λ t. absurd (true≢false (sym (backward_unfit (ltb-true _ _ t)) ∙ h)))
      (λ t.
      let ordered : k.from ≤ k.to = ltb-false _ _ t in
      record { ordered = ordered; whole = ltb-false _ _ (sym (range-unfit ordered) ∙ h) })

module _ (k : Check) where
  before-unfit : k.field < k.from → unfit_field k ≡ true
  unfolding unfit_field
  before-unfit h = simp (lt-ltb _ _ h)

  past_unfit : k.to < k.field + 2 → unfit_field k ≡ true
  unfolding unfit_field
  past_unfit h = simp (lt-ltb _ _ h, or-true)

  -- an empty range has no room for a field
  pub empty_field_unfit : k.from ≡ k.to → unfit_field k ≡ true
  empty_field_unfit e = by_order k.field k.from (λ h. before-unfit h) (λ h. past_unfit (omega arith))

  field_unfit : k.from ≤ k.field → k.field + 2 ≤ k.to → unfit_field k ≡ eqb ((k.field - k.from) % 2) 1
  unfolding unfit_field
  field_unfit h l = simp (le-ltb _ _ h, le-ltb _ _ l)

  -- a field that condition 10 lets pass
  pub record FitField : Type 0 where
    pub after : k.from ≤ k.field
    pub within : k.field + 2 ≤ k.to
    pub even : (k.field - k.from) % 2 ≡ 0

  pub fit_field : unfit_field k ≡ false → FitField
  fit_field h =
      by_test (ltb k.field k.from) (λ t. absurd (true≢false (sym (before-unfit (ltb-true _ _ t)) ∙ h)))
      (λ t.
      by_test (ltb k.to (k.field + 2)) (λ u. absurd (true≢false (sym (past_unfit (ltb-true _ _ u)) ∙ h)))
      (λ u.
      let after : k.from ≤ k.field = ltb-false _ _ t in
      let within : k.field + 2 ≤ k.to = ltb-false _ _ u in
      let odd = eqb-false ((k.field - k.from) % 2) 1 (sym (field_unfit after within) ∙ h) in
      record { after = after; within = within; even = omega arith }))
