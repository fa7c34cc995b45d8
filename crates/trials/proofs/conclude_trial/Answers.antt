-- `conclude_trial` takes the verdict and finds its column by what was flipped.
use mathlib.Core.Path.{ap, ◌∙◌}
use native.Mathlib.Omega.{arith}
use Rattle.verdicts.specs.Verdicts.{Said}
use Rattle.trials.specs.Running.{column_by}
use Rattle.trials.proofs.TrialLaws.{column-found}
use Rattle.trials.proofs.conclude_trial.Goals as goal

pub returns-clause-column : goal.returns-clause-column
returns-clause-column c t bt ascends flipped =
    let a = c.args in
    c.column_of.ensures
    ∙ ap (λ (w : Said). column_by w a.flipped.now) c.conclude-verdict.ensures.verdict
    ∙ column-found a.packet.now t a.flipped.now bt (λ i. omega (arith, c.type_inv.packet i)) ascends flipped a.settings.crc a.settings.check a.settings.limit c.requires.usable.fit
