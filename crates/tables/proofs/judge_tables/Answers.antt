-- The generator that was made is fit.
use Rattle.poly.proofs.NewLaws.{new_fit}
use Rattle.tables.proofs.judge_tables.Goals as goal

pub unfit_tables-requires : goal.unfit_tables-requires
unfit_tables-requires c = new_fit c.args.generator c.in_ok-g.ensures
