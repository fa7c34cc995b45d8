-- `fill` writes the bytes of the stream and comes to its state. Invariant: the slice is filled up to the place of b.
use Rattle.std.proofs.Common.{length}
use Rattle.maker.proofs.StreamLaws.{PartFilled}
use Rattle.maker.proofs.fill.Given as goal

abbrev pub invariant-loop-b : goal.invariant-loop-b
invariant-loop-b l =
    PartFilled l.seed (length l.initial.packet) l.packet l.state l.b-index
