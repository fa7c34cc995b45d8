-- A line read number by number: for inner functions alone. InputLaws has that the input is a whole line, of just the numbers
-- read, exactly where IsLine holds of them.
use Rattle.std.specs.Prelude.{ℕ, zero, suc, ◌+◌, ◌-◌, ◌*◌, Bool, true, false, ◌&&◌, Option, Some, None, List, [], ◌∷◌, eqb, ltb, leb}
use Rattle.base.specs.Outcome.{pick}
use Rattle.parsing.specs.Input.{closing}

-- is a byte a decimal digit?
abbrev pub is_digit : ℕ → Bool
is_digit c = leb 48 c && ltb c 58

-- what is read: a number with what stands after its closing byte, or none
abbrev pub Reading : Type 0
Reading = Option (ℕ × List ℕ)

-- at most `room` digits behind the number v, and the closing byte
unfoldable pub read_from : ℕ → ℕ → ℕ → List ℕ → Reading
read_from close room v [] = None
read_from close zero v (c ∷ cs) = pick (eqb c close) (Some (v, cs)) None
read_from close (suc room) v (c ∷ cs) =
    pick (eqb c close) (Some (v, cs)) (pick (is_digit c) (read_from close room (v * 10 + (c - 48)) cs) None)

-- one to nine digits, and the closing byte
unfoldable pub read : ℕ → List ℕ → Reading
read close [] = None
read close (c ∷ cs) = pick (is_digit c) (read_from close 8 (c - 48) cs) None

-- the numbers of a line of so many, up to the first that is missing
unfoldable pub numbers_in : ℕ → List ℕ → List ℕ
numbers_in zero input = []
numbers_in (suc more) input = elim (read (closing more) input) [ Some (v, rest) ↦ v ∷ numbers_in more rest | None ↦ [] ]

-- is the input a line of so many numbers?
unfoldable pub whole_line : ℕ → List ℕ → Bool
whole_line zero [] = true
whole_line zero (c ∷ cs) = false
whole_line (suc more) input = elim (read (closing more) input) [ Some (v, rest) ↦ whole_line more rest | None ↦ false ]
