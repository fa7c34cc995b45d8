-- The powers of x by their remainders, for a generator g of degree n: the period, and the tables of steps and of first positions.
use Rattle.std.specs.Prelude.{ℕ, zero, suc, ◌-◌, ◌*◌, ◌^◌, Bool, true, false, not, ◌&&◌, ◌||◌, List, [], ◌∷◌, eqb}
use Rattle.base.specs.Outcome.{pick}
use Rattle.poly.specs.Polynomial.{rem}

-- the remainder that x^p leaves
unfoldable pub power : ℕ → ℕ → ℕ → ℕ
power n g p = rem n g (2 ^ p)

-- the least that passes the test, of as many numbers as `count` says, from `from` on; `other` where none does
unfoldable pub least : (ℕ → Bool) → ℕ → ℕ → ℕ → ℕ
least test other zero from = other
least test other (suc count) from = pick (test from) from (least test other count (suc from))

-- the t below 2 ^ n that times x leaves s; StepLaws has that it is the only one
unfoldable pub step : ℕ → ℕ → ℕ → ℕ
unfolding least
step n g s = least (λ t. eqb (rem n g (t * 2)) s) 0 (2 ^ n) 0

-- the bits of an entry, and the entry that says that no power of x leaves this remainder: the greatest that there is
abbrev pub entry_bits : ℕ
entry_bits = 16

abbrev pub absent : ℕ
absent = 2 ^ entry_bits - 1

-- the smallest p such that x^p leaves s; FirstLaws has that a search below 2 ^ n misses nothing
unfoldable pub first : ℕ → ℕ → ℕ → ℕ
unfolding least
first n g s = least (λ p. eqb (power n g p) s) absent (2 ^ n) 0

-- the smallest positive c such that x^c leaves 1; PeriodLaws has that there is one below 2 ^ n
unfoldable pub period : ℕ → ℕ → ℕ
unfolding least
period n g = least (λ c. eqb (power n g c) 1) 0 (2 ^ n - 1) 1

-- the values of f at as many numbers as `count` says, from `from` on
unfoldable pub values : (ℕ → ℕ) → ℕ → ℕ → List ℕ
values f zero from = []
values f (suc count) from = f from ∷ values f count (suc from)

unfoldable pub step_table : ℕ → ℕ → List ℕ
unfolding values
step_table n g = values (step n g) (2 ^ n) 0

unfoldable pub first_table : ℕ → ℕ → List ℕ
unfolding values
first_table n g = values (first n g) (2 ^ n) 0

-- condition 5, by the numbers of entries of both tables
unfoldable pub unfit_tables : ℕ → ℕ → ℕ → Bool
unfit_tables n steps firsts = not (eqb steps (2 ^ n)) || not (eqb firsts (2 ^ n))

-- whether two lists are the same
unfoldable pub same : List ℕ → List ℕ → Bool
same [] [] = true
same [] (y ∷ ys) = false
same (x ∷ xs) [] = false
same (x ∷ xs) (y ∷ ys) = eqb x y && same xs ys

-- every entry of both tables is right
unfoldable pub right_tables : ℕ → ℕ → List ℕ → List ℕ → Bool
unfolding same
right_tables n g steps firsts = same steps (step_table n g) && same firsts (first_table n g)

-- condition 6: a table entry is wrong
unfoldable pub wrong_tables : ℕ → ℕ → List ℕ → List ℕ → Bool
wrong_tables n g steps firsts = not (right_tables n g steps firsts)
