-- How an answer reaches a C caller: a number is returned, and lent memory is written where the call was accepted.
use Rattle.std.specs.Prelude.{ℕ, ◌≤◌, ◌≡◌, ◌↔◌}
use Rattle.base.specs.Outcome.{Outcome, refused, accepted}

module _ {A : Type 0} where
  -- the number returned: that of the condition, and 0 where none applies
  abbrev pub code : Outcome A → ℕ
  code (refused k) = k
  code (accepted a) = 0

  -- what lent memory holds after a call: what it held, or what the accepted call's value makes of it
  abbrev pub changed : {B : Type 0} → B → (A → B) → Outcome A → B
  changed old new (refused k) = old
  changed old new (accepted a) = new a

  -- a call that is accepted, whatever its value is
  pub data Accepted (o : Outcome A) : Type 0 where
    with_value : {a : A} → o ≡ accepted a → Accepted o

  -- the number returned tells what came of a call: 0 just where it is accepted, and else the number of its refusal, which is never 0
  pub record Tells (o : Outcome A) : Type 0 where
    pub when_zero : (code o ≡ 0) ↔ Accepted o
    pub when_refused : (k : ℕ) → o ≡ refused k → (code o ≡ k) × (1 ≤ k)
