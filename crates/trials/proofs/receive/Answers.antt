-- `receive` flips bits of the packet, since positions that are drawn lie below its length.
use Prim.Native.Nat.{◌*◌, ◌≤◌}
use native.Mathlib.Omega.{arith}
use lib.ListN.{length}
use Rattle.base.proofs.ListLaws.{ascending_all}
use Rattle.channel.proofs.DrawLaws.{drawn_ascends}
use Rattle.trials.proofs.receive.Goals as goal

pub flip_bits-requires : goal.flip_bits-requires
flip_bits-requires c =
    let room : length c.args.flipped.now ≤ 8 * length c.make_accepted-made.new.packet = omega arith in
    rw c.draw-state.ensures.positions (ascending_all (drawn_ascends _ _ _ room).0)
