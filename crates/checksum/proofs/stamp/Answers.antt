-- `stamp` fills the field where conditions 1, 2, 9 and 10 do not apply.
use Prim.Native.Nat.{◌*◌}
use native.Mathlib.Omega.{arith}
use lib.ListN.{length}
use Rattle.base.proofs.JudgeLaws.{none_applies}
use Rattle.poly.specs.Polynomial.{degree}
use Rattle.checksum.specs.Calls.{stamp_conditions}
use Rattle.checksum.proofs.ConditionLaws.{fit_range, fit_field}
use Rattle.checksum.proofs.stamp.Goals as goal

pub fill_field-requires : goal.fill_field-requires
fill_field-requires c =
    let a = c.args in
    let clear = none_applies (stamp_conditions a.generator (8 * length a.packet.now) a.check) c.judge_stamp.ensures c.in_ok-judge_stamp.was in
    omega (arith, fit_range (degree a.generator) (8 * length a.packet.now) a.check (clear 9), fit_field a.check (clear 10))
