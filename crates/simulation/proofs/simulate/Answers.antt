-- `simulate` answers by its conditions and then leaves all that was lent alone; else it is what the simulation comes to.
use mathlib.Core.Path.{sym, ap, ◌∙◌}
use Prim.Native.Nat.{ℕ, ◌*◌}
use native.Mathlib.Omega.{arith}
use lib.ListN.{length}
use Rattle.std.proofs.lemmas.Result.{err_from_is_err_and}
use Rattle.base.specs.Outcome.{refused, accepted}
use Rattle.base.proofs.JudgeLaws.{turned_down, let_through, none_applies}
use Rattle.poly.specs.Polynomial.{degree}
use Rattle.packet.specs.declared.Crc.{Crc}
use Rattle.packet.proofs.PacketLaws.{fit_length}
use Rattle.packet.proofs.ReadLaws.{fit_readable}
use Rattle.checksum.proofs.ConditionLaws.{fit_range, fit_field}
use Rattle.tables.proofs.TableLaws.{right_unless_wrong}
use Rattle.patterns.proofs.MarkLaws.{fit_limit}
use Rattle.trials.specs.Trials.{joined_rows, simulated}
use Rattle.simulation.specs.Calls.{simulation_by, simulate_conditions, outcome}
use Rattle.simulation.proofs.ConditionLaws.{fit_room, fit_trials}
use Rattle.simulation.proofs.simulate.Goals as goal

pub simulate_by-requires : goal.simulate_by-requires
simulate_by-requires c =
    let a = c.args in
    let k = a.numbers in
    let t = a.tables in
    let n : ℕ = degree k.generator in
    let p = a.packet.now in
    let r = simulation_by k a.seed a.check a.limit a.count t p a.output.now a.counts.now in
    let clear = none_applies (simulate_conditions r) (c.judge_simulate.ensures a.seed) c.in_ok-judge_simulate.was in
    let right = right_unless_wrong n k.generator t.steps.now t.firsts.now (clear 6) in
    let readable = fit_readable k.generator k.init k.xorout p (clear 1) (clear 2) (clear 11) in
    let range = fit_range n (8 * length p) a.check (clear 9) in
    let field = fit_field a.check (clear 10) in
    let room = fit_room (length a.output.now) (length p) (length a.counts.now) (clear 8) in
    rw c.from-crc.ensures (
      record {
        fit = readable.fit;
        init = readable.init;
        xorout = readable.xorout;
        long = readable.long;
        short = omega (arith, (fit_length n (8 * length p) (clear 2)).1);
        after = field.after;
        within = field.within;
        inside = omega (arith, range.whole);
      },
      fit_limit a.limit (clear 3),
      record { fit = readable.fit; right_steps = right.0; right_firsts = right.1 },
      room.0,
      room.1,
      (fit_trials a.count (clear 14)).1,
    )

pub returns-in_err-judge_simulate : goal.returns-in_err-judge_simulate
returns-in_err-judge_simulate c =
    let a = c.args in
    let r = simulation_by a.numbers a.seed a.check a.limit a.count a.tables a.packet.now a.output.now a.counts.now in
    let ts = simulate_conditions r in
    let e = c.judge_simulate.ensures r.seed in
    let h = c.in_err-judge_simulate.was in
    record {
      answer = let p = err_from_is_err_and c.from_residual.result c.from_residual.ensures.1 in rw (p.1, p.2) (sym (turned_down ts e h refused (accepted (outcome r).state)));
      packet = sym (turned_down ts e h (λ _. r.packet) (outcome r).packet);
      output = sym (turned_down ts e h (λ _. r.output) (outcome r).output);
      counts = sym (turned_down ts e h (λ _. r.counts) (joined_rows (outcome r).counts));
    }

pub returns : goal.returns
returns c =
    let a = c.args in
    let r = simulation_by a.numbers a.seed a.check a.limit a.count a.tables a.packet.now a.output.now a.counts.now in
    let ts = simulate_conditions r in
    let e = c.judge_simulate.ensures r.seed in
    let h = c.in_ok-judge_simulate.was in
    let by = c.simulate_by.ensures in
    let crc = ap (λ (k : Crc). simulated k r.check r.limit r.trials r.seed r.packet r.output) c.from-crc.ensures in
    record {
      answer = ap accepted (by.state ∙ ap (λ t. t.state) crc) ∙ sym (let_through ts e h refused (accepted (outcome r).state));
      packet = by.packet ∙ ap (λ t. t.packet) crc ∙ sym (let_through ts e h (λ _. r.packet) (outcome r).packet);
      output = by.output ∙ ap (λ t. t.output) crc ∙ sym (let_through ts e h (λ _. r.output) (outcome r).output);
      counts = by.counts ∙ ap (λ t. joined_rows t.counts) crc ∙ sym (let_through ts e h (λ _. r.counts) (joined_rows (outcome r).counts));
    }
