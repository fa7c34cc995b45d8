-- Sets of two positions or more, from span to span, and what a search among those of one count answers: for inner functions alone.
use Rattle.std.specs.Prelude.{ℕ, ◌<◌, ◌≤◌, Bool, List, length}
use Rattle.patterns.specs.Order.{before}
use Rattle.placing.specs.Placing.{Describes}
use Rattle.placing.specs.declared.Powers.{Powers}
use Rattle.spans.specs.Spans.{Behind, Finds, OfSpan, Summing}

-- a set of k + 2 positions below l whose powers have the sum u, of span d or more
abbrev pub FromSpan : (ℕ → ℕ) → ℕ → ℕ → ℕ → ℕ → List ℕ → Type 0
FromSpan power l k u d qs = (e : ℕ) × (d ≤ e) × OfSpan power l k u e 0 qs

-- no such set has a span from d on and below e
abbrev pub Spanless : (ℕ → ℕ) → ℕ → ℕ → ℕ → ℕ → ℕ → Type 0
Spanless power l k u d e = (f : ℕ) → d ≤ f → f < e → (ps : List ℕ) → OfSpan power l k u f 0 ps → ⊥

-- what a search for the first set of span d or more answers, for whatever powers the tables describe
abbrev pub FirstFromSpan : Powers → ℕ → ℕ → ℕ → Bool → List ℕ → Type 0
FirstFromSpan t k u d r pos = (power : ℕ → ℕ) → Describes power t → Finds before (FromSpan power (length t.powers.now) k u d) r pos

-- what one for the first set of k positions answers
abbrev pub FirstOfCount : Powers → ℕ → ℕ → Bool → List ℕ → Type 0
FirstOfCount t k u r pos = (power : ℕ → ℕ) → Describes power t → Finds before (Summing power (length t.powers.now) k 0 u) r pos

-- and one for the next set of as many positions as q
abbrev pub NextOfCount : Powers → ℕ → List ℕ → Bool → List ℕ → Type 0
NextOfCount t u q r pos = (power : ℕ → ℕ) → Describes power t → Finds before (Behind (Summing power (length t.powers.now) (length q) 0 u) q) r pos
