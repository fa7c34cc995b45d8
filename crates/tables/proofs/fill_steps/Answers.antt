-- `fill_steps` stores the step table. The invariant: the entries before s are steps.
use native.Mathlib.Omega.{arith}
use Rattle.tables.specs.Tables.{step}
use Rattle.tables.proofs.StepLaws.{step_inverts}
use Rattle.tables.proofs.TableLaws.{entries_more, step_table_by_entries}
use Rattle.tables.proofs.fill_steps.Goals as goal

pub loop-s-preserved : goal.loop-s-preserved
loop-s-preserved c =
    let l = c.loop-s in
    let e = c in
    let n = e.args.g.degree in
    let g = e.args.g.coefficients in
    let r = c.back.result in
    let b = c.back.ensures in
    entries_more (step n g) l.steps l.s r (omega arith) l.invariant
    ((step_inverts n g e.requires.fit.divisor l.s (omega (arith, e.requires.full))).only r b.0 b.1)

pub returns : goal.returns
returns c =
    let e = c in
    step_table_by_entries e.args.g.degree e.args.g.coefficients c.loop-s.steps (omega (arith, e.requires.full))
    (λ s b. c.loop-s.invariant s (omega (arith, e.requires.full)))
