-- `repair` answers by its conditions and then leaves the output alone; else it is the verdict, and the output changes only
-- for Repaired.
use mathlib.Core.Path.{sym}
use Prim.Native.Nat.{ℕ, ◌*◌}
use native.Mathlib.Omega.{arith}
use lib.ListN.{length}
use Rattle.std.proofs.lemmas.Result.{err_from_is_err_and}
use Rattle.base.specs.Outcome.{refused, accepted}
use Rattle.base.proofs.JudgeLaws.{turned_down, none_applies}
use Rattle.poly.specs.Polynomial.{degree}
use Rattle.packet.specs.Packet.{Bytes}
use Rattle.packet.proofs.PacketLaws.{fit_length}
use Rattle.packet.proofs.ReadLaws.{fit_readable}
use Rattle.checksum.proofs.ConditionLaws.{fit_range}
use Rattle.tables.proofs.TableLaws.{right_unless_wrong}
use Rattle.patterns.proofs.MarkLaws.{fit_limit}
use Rattle.verdicts.specs.Verdicts.{verdict, output_for}
use Rattle.repair.specs.Calls.{repair_request_by, repair_conditions}
use Rattle.repair.proofs.ConditionLaws.{fit_copy, fit_check_field}
use Rattle.repair.proofs.repair.Goals as goal

pub repair_by-requires : goal.repair_by-requires
repair_by-requires c =
    let a = c.args in
    let k = a.numbers in
    let t = a.tables in
    let n : ℕ = degree k.generator in
    let p = a.packet.now in
    let b : Bytes p = λ i. omega (arith, c.type_inv.packet i) in
    let r = repair_request_by k a.check a.limit t p a.output.now in
    let clear = none_applies (repair_conditions r) c.judge_repair.ensures c.in_ok-judge_repair.was in
    let right = right_unless_wrong n k.generator t.steps.now t.firsts.now (clear 6) in
    let readable = fit_readable k.generator k.init k.xorout p (clear 1) (clear 2) (clear 11) in
    let range = fit_range n (8 * length p) a.check (clear 9) in
    rw c.from-crc.ensures (
      record {
        readable = readable;
        bytewise = b;
        short = omega (arith, (fit_length n (8 * length p) (clear 2)).1);
        few = fit_limit a.limit (clear 3);
        ordered = range.ordered;
        inside = omega (arith, range.whole);
        field_inside = λ h. (fit_check_field a.check (clear 10) (omega (arith, h, range.ordered))).within;
      },
      record { fit = readable.fit; right_steps = right.0; right_firsts = right.1 },
      fit_copy (length a.output.now) (length p) (clear 8),
    )

pub returns-in_err-judge_repair : goal.returns-in_err-judge_repair
returns-in_err-judge_repair c =
    let a = c.args in
    let r = repair_request_by a.numbers a.check a.limit a.tables a.packet.now a.output.now in
    let e = c.judge_repair.ensures in
    let h = c.in_err-judge_repair.was in
    record {
      answer = let p = err_from_is_err_and c.from_residual.result c.from_residual.ensures.1 in rw (p.1, p.2) (sym (turned_down (repair_conditions r) e h refused (accepted (verdict r.crc r.check r.limit r.packet))));
      bytes = sym (turned_down (repair_conditions r) e h (λ _. r.output) (output_for r.crc r.check r.limit r.packet r.output));
    }
