-- `make` makes the packet where conditions 1, 2, 11, 9 and 10 do not apply.
use Rattle.std.proofs.Common.{◌*◌, length, arith}
use Rattle.base.proofs.JudgeLaws.{none_applies}
use Rattle.poly.specs.Polynomial.{degree}
use Rattle.packet.specs.Packet.{crc_of}
use Rattle.packet.proofs.ReadLaws.{fit_readable}
use Rattle.checksum.proofs.ConditionLaws.{fit_range, fit_field}
use Rattle.maker.specs.Calls.{make_conditions}
use Rattle.maker.proofs.make.Goals as goal

pub make_accepted-state-requires : goal.make_accepted-state-requires
make_accepted-state-requires c =
    let a = c.args in
    let n = a.numbers in
    let clear = none_applies (make_conditions (crc_of n.generator n.init n.xorout) (8 * length a.packet.now) a.check) c.judge_make.ensures c.in_ok-judge_make.was in
    let range = fit_range (degree n.generator) (8 * length a.packet.now) a.check (clear 9) in
    let field = fit_field a.check (clear 10) in
    (rw c.from.ensures (fit_readable n.generator n.init n.xorout a.packet.now (clear 1) (clear 2) (clear 11)), field.after, field.within, omega (arith, range.whole))
