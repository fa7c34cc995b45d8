-- `judge_list` asks for the syndrome only of a generator that is listed, and so fit.
use Rattle.std.proofs.Common.{refl, sym, ◌∙◌}
use Rattle.poly.proofs.GeneratorLaws.{made_fit}
use Rattle.lister.proofs.TurnLaws.{listed_fit}
use Rattle.lister.proofs.judge_list.Goals as goal

pub unfit_syndrome-requires : goal.unfit_syndrome-requires
unfit_syndrome-requires c =
    let g = c.args.query.generator in
    made_fit g (sym (listed_fit g (sym c.unfit_listed.ensures ∙ c.if-unfit_listed.false)).0) refl c.of-g.ensures
