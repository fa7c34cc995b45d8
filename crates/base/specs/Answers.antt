-- A call's answer as an outcome: refused by the number of its refusal, or accepted with a value.
use Rattle.std.specs.Prelude.{Ok, Err}
use Rattle.std.specs.declared.result.Result.{Result}
use Rattle.base.specs.Outcome.{Outcome, refused, accepted}
use Rattle.base.specs.Refusals.{number}
use Rattle.base.specs.declared.Refusal.{Refusal}

module _ {A B : Type 0} where
  -- with the value read by f
  abbrev pub answered : (A → B) → Result A Refusal → Outcome B
  answered f (Ok a) = accepted (f a)
  answered f (Err r) = refused (number r)

-- with the value as it is
abbrev pub outcome : {A : Type 0} → Result A Refusal → Outcome A
outcome = answered (λ a. a)
