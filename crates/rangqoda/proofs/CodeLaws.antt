-- What an answer comes to for a C caller, once it is known whether the call was refused.
use mathlib.Core.Path.{◌≡◌, ap, ◌∙◌}
use Prim.Native.Nat.{ℕ}
use Rattle.base.specs.Outcome.{Outcome, refused, accepted}
use Rattle.rangqoda.specs.Codes.{code, changed}

module _ {A : Type 0} {o : Outcome A} where
  pub code_refused : {k r : ℕ} → refused k ≡ o → r ≡ k → r ≡ code o
  code_refused e n = n ∙ ap code e

  pub code_accepted : {a : A} → accepted a ≡ o → 0 ≡ code o
  code_accepted e = ap code e

  pub changed_refused : {B : Type 0} {k : ℕ} (old : B) (new : A → B) → refused k ≡ o → old ≡ changed old new o
  changed_refused old new e = ap (changed old new) e

  pub changed_accepted : {B : Type 0} {a : A} (old : B) (new : A → B) → accepted a ≡ o → new a ≡ changed old new o
  changed_accepted old new e = ap (changed old new) e
