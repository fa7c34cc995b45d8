-- `judge_settings` tests conditions 1, 2, 11, 3, 5 and 6 in this order: the first three as `judge_packet` does.
use mathlib.Core.Path.{refl, sym, ◌∙◌}
use Prim.Native.Nat.{◌*◌}
use Rattle.base.proofs.JudgeLaws.{none_applies}
use Rattle.poly.proofs.GeneratorLaws.{made_fit}
use Rattle.packet.specs.Packet.{crc_of}
use Rattle.crc.specs.Calls.{packet_conditions}
use Rattle.tables.proofs.TableLaws.{fit_lengths}
use Rattle.repair.proofs.judge_settings.Goals as goal

pub unfit_tables-requires : goal.unfit_tables-requires
unfit_tables-requires c =
    let n = c.args.numbers in
    let clear = none_applies (packet_conditions (crc_of n.generator n.init n.xorout) (8 * c.args.len)) c.judge_packet.ensures c.in_ok-judge_packet.was in
    made_fit n.generator refl (clear 1) c.of-g.ensures

pub verify-requires : goal.verify-requires
verify-requires c =
    let n = c.args.numbers in
    let clear = none_applies (packet_conditions (crc_of n.generator n.init n.xorout) (8 * c.args.len)) c.judge_packet.ensures c.in_ok-judge_packet.was in
    let fit = made_fit n.generator refl (clear 1) c.of-g.ensures in
    let full = fit_lengths _ _ _ (sym c.unfit_tables.ensures ∙ c.if-unfit_tables.false) in
    (record { fit = fit; full = full.0 }, record { fit = fit; full = full.1 })
