-- Sets of several counts, and what a search among them tells: for inner functions alone.
use Rattle.std.specs.Prelude.{ℕ, ◌≤◌, ◌≡◌, Bool, List, Option, Some, None, length, take}
use Rattle.base.specs.Lists.{Ascending}
use Rattle.patterns.specs.Order.{before}
use Rattle.patterns.specs.StrictOrder.{Foremost}
use Rattle.placing.specs.Placing.{xor_all, Describes}
use Rattle.placing.specs.declared.Powers.{Powers}
use Rattle.spans.specs.Spans.{Behind}

-- a set of `least` to `most` positions below l whose powers have the sum u
pub record Among (power : ℕ → ℕ) (l least most u : ℕ) (ps : List ℕ) : Type 0 where
  pub ascends : Ascending l 0 ps
  pub enough : least ≤ length ps
  pub within : length ps ≤ most
  pub sums : xor_all power ps ≡ u

-- the positions left in front, as many as were found, stand first of all that meet P; or nothing does
abbrev pub FindsAt : (List ℕ → List ℕ → Bool) → (List ℕ → Type 0) → Option ℕ → List ℕ → Type 0
FindsAt R P (Some k) pos = Foremost R P (take k pos)
FindsAt R P None pos = (b : List ℕ) → P b → ⊥

-- what a search for the first set of `least` to `most` positions answers, for whatever powers the tables describe
abbrev pub FirstAmong : Powers → ℕ → ℕ → ℕ → Option ℕ → List ℕ → Type 0
FirstAmong t least most u r pos = (power : ℕ → ℕ) → Describes power t → FindsAt before (Among power (length t.powers.now) least most u) r pos

-- and what one answers for the next set of at most so many positions behind q
abbrev pub NextAmong : Powers → ℕ → ℕ → List ℕ → Option ℕ → List ℕ → Type 0
NextAmong t most u q r pos = (power : ℕ → ℕ) → Describes power t → FindsAt before (Behind (Among power (length t.powers.now) 0 most u) q) r pos
