-- An accepted repair came with room for the verdict, whose bytes `rangqoda_repair` then writes.
use mathlib.Core.Path.{ap}
use Prim.Native.Nat.{ℕ}
use lib.ListN.{take}
use Rattle.rangqoda.proofs.RepairLaws.{accepted_room}
use Rattle.rangqoda.proofs.rangqoda_repair.Goals as goal

pub put_verdict-requires : goal.put_verdict-requires
put_verdict-requires c =
    let output = c.args.output.now in
    accepted_room _ c.args.verdict.now output (ap (λ (k : ℕ). take k output) c.room_for-room.ensures) c.in-Ok.ensures.answer
