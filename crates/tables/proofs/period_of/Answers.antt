-- `period_of` looks up the step of 1, and its first position, which is one before the period.
use mathlib.Core.Path.{◌≡◌, ap, ap₂, ◌∙◌}
use mathlib.Core.List.{List}
use Prim.Native.Nat.{ℕ, ◌+◌, ◌<◌}
use native.Mathlib.Omega.{arith}
use lib.ListN.{length, get_or}
use Rattle.poly.specs.declared.Generator.{Generator}
use Rattle.tables.specs.Lent.{Lent}
use Rattle.tables.specs.Tables.{step, period, step_table, first_table}
use Rattle.poly.proofs.GeneratorLaws.{fit_small}
use Rattle.tables.proofs.StepLaws.{step_inverts}
use Rattle.tables.proofs.TableLaws.{get_or_step_table, get_or_first_table, length-first_table}
use Rattle.tables.proofs.FirstLaws.{period_from_tables}
use Rattle.tables.proofs.period_of.Goals as goal

-- the two look-ups
record LookedUp (g : Generator) (steps firsts : List ℕ) : Type 0 where
  at : get_or steps 1 0 ≡ step g.degree g.coefficients 1
  inside : get_or steps 1 0 < length firsts
  entry : get_or firsts (get_or steps 1 0) 0 + 1 ≡ period g.degree g.coefficients

looked_up : (d : Generator) (steps firsts : List ℕ) → Lent d steps → steps ≡ step_table d.degree d.coefficients
    → firsts ≡ first_table d.degree d.coefficients → LookedUp d steps firsts
looked_up d steps firsts lent as_steps as_firsts =
    let n = d.degree in
    let g = d.coefficients in
    let small = fit_small d lent.fit in
    let low = (step_inverts n g lent.fit.divisor 1 (omega (arith, lent.full))).below in
    let at = ap (λ (x : List ℕ). get_or x 1 0) as_steps ∙ get_or_step_table n g 1 (omega (arith, lent.full)) in
    record {
      at = at;
      inside = omega (arith, ap length as_firsts, length-first_table n g);
      entry =
          ap (λ (x : ℕ). x + 1) (ap₂ (λ (x : List ℕ) (y : ℕ). get_or x y 0) as_firsts at ∙ get_or_first_table n g (step n g 1) low)
          ∙ period_from_tables n g lent.fit.divisor small.positive;
    }

pub bounds-tables-1 : goal.bounds-tables-1
bounds-tables-1 c =
    let e = c in omega (arith, fit_small e.args.g e.requires.lent.fit)

pub bounds-tables-t : goal.bounds-tables-t
bounds-tables-t c = (looked_up c.args.g c.args.tables.steps.now c.args.tables.firsts.now c.requires.lent c.requires.right.0 c.requires.right.1).inside

pub returns : goal.returns
returns c = omega (arith, (looked_up c.args.g c.args.tables.steps.now c.args.tables.firsts.now c.requires.lent c.requires.right.0 c.requires.right.1).entry)
