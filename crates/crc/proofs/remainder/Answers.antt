-- `remainder_of` is called where no condition applies.
use Prim.Native.Nat.{◌*◌}
use lib.ListN.{length}
use Rattle.base.proofs.JudgeLaws.{none_applies}
use Rattle.packet.specs.Packet.{crc_of}
use Rattle.packet.proofs.ReadLaws.{fit_readable}
use Rattle.crc.specs.Calls.{packet_conditions}
use Rattle.crc.proofs.remainder.Goals as goal

pub remainder_of-requires : goal.remainder_of-requires
remainder_of-requires c =
    let n = c.args.numbers in
    let packet = c.args.packet.now in
    let clear = none_applies (packet_conditions (crc_of n.generator n.init n.xorout) (8 * length packet)) c.judge_packet.ensures c.in_ok-judge_packet.was in
    rw c.from.ensures (fit_readable n.generator n.init n.xorout packet (clear 1) (clear 2) (clear 11))
