-- What a call answers, and how it comes to be refused: the conditions named for it are tested in their order,
-- and the first that applies decides.
use Rattle.std.specs.Prelude.{ℕ, Bool, true, false, List, [], ◌∷◌, eqb}

-- an answer: the number of a condition, or a value
pub data Outcome (A : Type 0) : Type 0 where
  refused : ℕ → Outcome A
  accepted : A → Outcome A

-- a condition's number, and whether it applies
pub record Condition : Type 0 where
  pub number : ℕ
  pub applies : Bool

abbrev pub when : ℕ → Bool → Condition
when k b = record { number = k; applies = b }

module _ {R : Type 0} where
  abbrev pub pick : Bool → R → R → R
  pick true a b = a
  pick false a b = b

  -- `turned k` for the number k of the first condition that applies, and `done` where none does
  abbrev pub judge : List Condition → (ℕ → R) → R → R
  judge [] turned done = done
  judge (t ∷ ts) turned done = pick t.applies (turned t.number) (judge ts turned done)

-- of some conditions those that are tested before that of number k
abbrev pub earlier : ℕ → List Condition → List Condition
earlier k [] = []
earlier k (t ∷ ts) = pick (eqb k t.number) [] (t ∷ earlier k ts)
