-- `run_trial` receives a packet and concludes on it.
use mathlib.Core.Path.{◌≡◌, sym, ap, ◌∙◌}
use Prim.Native.Nat.{ℕ, ◌*◌, ◌≤◌}
use native.Mathlib.Omega.{arith}
use lib.ListN.{length}
use Rattle.base.specs.Lists.{Ascending}
use Rattle.packet.specs.Packet.{flips}
use Rattle.maker.specs.Calls.{made}
use Rattle.channel.proofs.DrawLaws.{drawn_ascends}
use Rattle.trials.proofs.TrialLaws.{received_is, trial_met}
use Rattle.trials.proofs.run_trial.Goals as goal

pub returns : goal.returns
returns c counts =
    let a = c.args in
    let crc = a.settings.crc in
    let check = a.settings.check in
    let n : ℕ = length a.packet.now in
    let f : ℕ = length a.flipped.now in
    let ps = c.receive-after.new.flipped in
    let t = made crc a.state.now check n in
    let e = c.receive-after.ensures in
    let room : f ≤ 8 * n = omega arith in
    let ascends : Ascending (8 * length t) 0 ps = rw (e.made.1, e.flipped) (drawn_ascends (8 * n) f _ room).0 in
    let came : c.receive-after.new.packet ≡ flips t ps = e.packet ∙ received_is crc check n f a.state.now ∙ ap (flips t) (sym e.flipped) in
    trial_met crc check a.settings.limit f a.state.now a.packet.now a.output.now counts e.state e.packet c.conclude_trial.ensures.output
    (c.conclude_trial.ensures.column t e.made.0 ascends came)
