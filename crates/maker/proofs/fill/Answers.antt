-- `fill` writes the bytes of the stream and comes to its state. Invariant: the slice is filled up to the place of b.
use Rattle.maker.proofs.StreamLaws.{part_filled_none, part_filled_more, part_filled_all}
use Rattle.maker.proofs.fill.Goals as goal

pub loop-b-init : goal.loop-b-init
loop-b-init c = part_filled_none c.args.seed c.args.packet.now

pub loop-b-preserved : goal.loop-b-preserved
loop-b-preserved c = part_filled_more c.next_state-state.result c.byte_of.result c.loop-b.invariant c.loop-b-test.true c.next_state-state.ensures c.byte_of.ensures

pub returns : goal.returns
returns c = let filled = part_filled_all c.loop-b.invariant c.loop-b-test.false in record { state = filled.0; bytes = filled.1 }
