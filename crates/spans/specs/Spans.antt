-- Sets of positions whose powers have a given sum, by their ends: what they are, and what a search for the first of them tells.
use Rattle.std.specs.Prelude.{ℕ, suc, ◌+◌, ◌-◌, ◌<◌, ◌≤◌, ◌≡◌, Bool, true, false, List, [], ◌∷◌, ◌++◌, length, get_or}
use Rattle.std.specs.Int.Bits.{bit_xor}
use Rattle.base.specs.Lists.{Ascending}
use Rattle.patterns.specs.Order.{before}
use Rattle.patterns.specs.StrictOrder.{Foremost}
use Rattle.placing.specs.Placing.{xor_all, Describes, ReadyFor}
use Rattle.placing.specs.declared.Powers.{Powers}

-- an answer of yes comes with what stands first of all that meet P, and no says that nothing does
abbrev pub Finds : {A : Type 0} → (A → A → Bool) → (A → Type 0) → Bool → A → Type 0
Finds R P true a = Foremost R P a
Finds R P false a = (b : _) → P b → ⊥

-- a set of k positions from `from` on and below l whose powers have the sum u
pub record Summing (power : ℕ → ℕ) (l k from u : ℕ) (ps : List ℕ) : Type 0 where
  pub ascends : Ascending l from ps
  pub counts : length ps ≡ k
  pub sums : xor_all power ps ≡ u

-- the set of a, of some between, and of b
abbrev pub framed : ℕ → ℕ → List ℕ → List ℕ
framed a b ps = a ∷ (ps ++ b ∷ [])

-- where a is below b: a set with these ends, of k positions between them, whose powers have the sum u
abbrev pub Between : (ℕ → ℕ) → ℕ → ℕ → ℕ → ℕ → List ℕ → Type 0
Between power k u a b qs = (ps : List ℕ) × (qs ≡ framed a b ps) × Summing power b k (suc a) (bit_xor u (bit_xor (power a) (power b))) ps

-- such a set below l, of span d and with its smallest position from `from` on
abbrev pub OfSpan : (ℕ → ℕ) → ℕ → ℕ → ℕ → ℕ → ℕ → List ℕ → Type 0
OfSpan power l k u d from qs = (a : ℕ) × (from ≤ a) × (a + d < l) × Between power k u a (a + d) qs

-- of some sets those that come after q in the list's order
abbrev pub Behind : (List ℕ → Type 0) → List ℕ → List ℕ → Type 0
Behind P q ps = P ps × (before q ps ≡ true)

-- what is left of the sum u without the powers at a and b, a sum that a search may look for too
pub record Left (t : Powers) (u a b v : ℕ) : Type 0 where
  pub ready : (from : ℕ) → from ≤ length t.powers.now → ReadyFor t from v
  pub known : (power : ℕ → ℕ) → Describes power t → v ≡ bit_xor u (bit_xor (power a) (power b))

-- what a search for the first set of one span answers, with k positions between the ends
abbrev pub FirstOfSpan : Powers → ℕ → ℕ → ℕ → ℕ → Bool → List ℕ → Type 0
FirstOfSpan t k u d from r pos = (power : ℕ → ℕ) → Describes power t → Finds before (OfSpan power (length t.powers.now) k u d from) r pos

-- and what one answers for the next set between the ends of q
abbrev pub NextBetween : Powers → ℕ → ℕ → List ℕ → Bool → List ℕ → Type 0
NextBetween t k u q r pos =
    (power : ℕ → ℕ) → Describes power t → Finds before (Behind (Between power k u (get_or q 0 0) (get_or q (length q - 1) 0)) q) r pos
