-- The verification is called only with a generator that was made and tables of its length.
use Rattle.std.proofs.Common.{◌≡◌, ℕ, [], ◌∷◌}
use mathlib.Core.Path.{sym, subst, ◌∙◌}
use Rattle.base.specs.Outcome.{Outcome, accepted, when}
use Rattle.base.proofs.JudgeLaws.{judge_clear, judge_value}
use Rattle.poly.specs.Generators.{unfit, generator_of, constructed}
use Rattle.poly.specs.Fit.{Fit}
use Rattle.poly.specs.declared.Generator.{Generator}
use Rattle.poly.proofs.GeneratorLaws.{fit_accepted}
use Rattle.tables.proofs.TableLaws.{fit_lengths}
use Rattle.tables_test.proofs.is_right.Goals as goal

-- a generator that was made is fit
fit : (n : ℕ) {g : Generator} → ◌≡◌ {A = Outcome Generator} (accepted g) (constructed n) → Fit g
fit n e =
    let ts = when 1 (unfit n) ∷ [] in
    subst Fit (judge_value ts (generator_of n) _ (sym e)) (fit_accepted n (judge_clear ts (generator_of n) _ (sym e) 1))

pub unfit_tables-requires : goal.unfit_tables-requires
unfit_tables-requires c = fit _ c.in-Ok.ensures

pub verify-requires : goal.verify-requires
verify-requires c =
    let g = fit _ c.in-Ok.ensures in
    let full = fit_lengths _ _ _ (sym c.unfit_tables.ensures ∙ c.if-not-unfit_tables.true) in
    (record { fit = g; full = full.0 }, record { fit = g; full = full.1 })
