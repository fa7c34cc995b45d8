-- `build` is called where no condition applies.
use lib.ListN.{length}
use Rattle.base.proofs.JudgeLaws.{none_applies}
use Rattle.poly.specs.Polynomial.{degree}
use Rattle.poly.proofs.GeneratorLaws.{fit_accepted}
use Rattle.tables.specs.Calls.{tables_conditions}
use Rattle.tables.proofs.TableLaws.{fit_lengths}
use Rattle.tables.proofs.tables.Goals as goal

pub build-requires : goal.build-requires
build-requires c =
    let g = c.args.generator in
    let steps = length c.args.steps.now in
    let firsts = length c.args.firsts.now in
    let clear = none_applies (tables_conditions g steps firsts) c.judge_tables.ensures c.in_ok-judge_tables.was in
    let fit = fit_accepted g (clear 1) in
    let full = fit_lengths (degree g) steps firsts (clear 5) in
    rw c.of.ensures (record { fit = fit; full = full.0 }, record { fit = fit; full = full.1 })
