-- A refusal is known by its number.
use mathlib.Core.Path.{◌≡◌, refl, sym, ap, ◌∙◌}
use mathlib.Core.List.{[], ◌∷◌}
use Prim.Native.Nat.{ℕ, ◌-◌}
use lib.ListN.{get_or}
use Rattle.base.specs.Refusals.{number}
use Rattle.base.specs.declared.Refusal.{Refusal}
use Rattle.base.specs.declared.Refusal.TheVariants.{Generator, Length, Limit, Syndrome, TableLength, TableEntry, Mark, Output, Range, Field, Values, BlockShape, BlockLength, Trials}

-- the refusal of a number
abbrev named : ℕ → Refusal
named k =
    get_or (Generator ∷ Length ∷ Limit ∷ Syndrome ∷ TableLength ∷ TableEntry ∷ Mark ∷ Output ∷ Range ∷ Field ∷ Values ∷ BlockShape ∷ BlockLength ∷ [])
    (k - 1)
    Trials

named_number : (r : Refusal) → named (number r) ≡ r
named_number Generator = refl
named_number Length = refl
named_number Limit = refl
named_number Syndrome = refl
named_number TableLength = refl
named_number TableEntry = refl
named_number Mark = refl
named_number Output = refl
named_number Range = refl
named_number Field = refl
named_number Values = refl
named_number BlockShape = refl
named_number BlockLength = refl
named_number Trials = refl

-- different refusals have different numbers
pub number_tells : (r q : Refusal) → number r ≡ number q → r ≡ q
number_tells r q e = sym (named_number r) ∙ ap named e ∙ named_number q
