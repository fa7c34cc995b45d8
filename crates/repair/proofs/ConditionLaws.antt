-- Condition 8 of a repair, by whether the lengths are equal, and condition 10, by whether there is a second check.
use mathlib.Core.Path.{◌≡◌, sym, ap, ◌∙◌}
use mathlib.Core.Bool.{true, false, not, and-false}
use Prim.Native.Nat.{ℕ, ◌<◌, ◌≤◌}
use borrow.Author.Tests.{lt-ltb, le-ltb, eq-eqb, ne_eqb, eqb-true, not-false}
use lib.Dec.{eqb, ltb}
use Rattle.checksum.specs.Checksum.{unfit_field}
use Rattle.checksum.specs.declared.Check.{Check}
use Rattle.checksum.proofs.ConditionLaws.{FitField, fit_field}
use Rattle.repair.specs.Calls.{unfit_copy, unfit_check_field}

pub copy_unfit : (room long : ℕ) → (room ≡ long → ⊥) → true ≡ unfit_copy room long
unfolding unfit_copy
copy_unfit room long h = sym (ap not (ne_eqb room long h))

pub copy_fit : (room long : ℕ) → room ≡ long → false ≡ unfit_copy room long
unfolding unfit_copy
copy_fit room long h = sym (ap not (eq-eqb room long h))

pub fit_copy : (room long : ℕ) → unfit_copy room long ≡ false → room ≡ long
unfolding unfit_copy
fit_copy room long h = eqb-true room long (not-false (eqb room long) h)

module _ (k : Check) where
  pub empty_check_field_fits : k.to ≤ k.from → unfit_check_field k ≡ false
  unfolding unfit_check_field
  empty_check_field_fits h = simp (le-ltb _ _ h)

  pub check_field_as_stamp : k.from < k.to → unfit_check_field k ≡ unfit_field k
  unfolding unfit_check_field
  check_field_as_stamp h = simp (lt-ltb _ _ h)

  pub fit_check_field : unfit_check_field k ≡ false → k.from < k.to → FitField k
  fit_check_field h l = fit_field k (sym (check_field_as_stamp l) ∙ h)

  -- a field that stamp accepts, a repair accepts
  pub stamp_field_fits : unfit_field k ≡ false → unfit_check_field k ≡ false
  unfolding unfit_check_field
  stamp_field_fits h = rw h (and-false (ltb k.from k.to))
