-- The call that builds the tables: what it answers, and what the two slices then hold.
use Rattle.std.specs.Prelude.{ℕ, List, [], ◌∷◌, length}
use Rattle.base.specs.Outcome.{Outcome, refused, accepted, Condition, when, judge}
use Rattle.poly.specs.Polynomial.{degree}
use Rattle.poly.specs.Generators.{unfit}
use Rattle.tables.specs.Tables.{period, step_table, first_table, unfit_tables}

-- refused by 1 and 5, with tables of this many entries
abbrev pub tables_conditions : ℕ → ℕ → ℕ → List Condition
tables_conditions g steps firsts = when 1 (unfit g) ∷ when 5 (unfit_tables (degree g) steps firsts) ∷ []

abbrev pub tables_call : ℕ → List ℕ → List ℕ → Outcome ℕ
tables_call g steps firsts = judge (tables_conditions g (length steps) (length firsts)) refused (accepted (period (degree g) g))

-- the slices after the call
abbrev pub steps_after : ℕ → List ℕ → List ℕ → List ℕ
steps_after g steps firsts = judge (tables_conditions g (length steps) (length firsts)) (λ _. steps) (step_table (degree g) g)

abbrev pub firsts_after : ℕ → List ℕ → List ℕ → List ℕ
firsts_after g steps firsts = judge (tables_conditions g (length steps) (length firsts)) (λ _. firsts) (first_table (degree g) g)
