-- `judge_page` tests conditions 1 to 8 in this order.
use mathlib.Core.Path.{sym, ◌∙◌}
use Rattle.poly.proofs.NewLaws.{new_fit}
use Rattle.tables.proofs.TableLaws.{fit_lengths}
use Rattle.pages.proofs.judge_page.Goals as goal

pub unfit_syndrome-requires : goal.unfit_syndrome-requires
unfit_syndrome-requires c = new_fit c.args.query.generator c.in_ok-g.ensures

pub unfit_tables-requires : goal.unfit_tables-requires
unfit_tables-requires c = new_fit c.args.query.generator c.in_ok-g.ensures

pub verify-requires : goal.verify-requires
verify-requires c =
    let full = fit_lengths _ _ _ (sym c.unfit_tables.ensures ∙ c.if-unfit_tables.false) in
    let fit = new_fit c.args.query.generator c.in_ok-g.ensures in
    (record { fit = fit; full = full.0 }, record { fit = fit; full = full.1 })
