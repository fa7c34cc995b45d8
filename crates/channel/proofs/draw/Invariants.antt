-- `draw` takes one position after the other. Invariant: the first i draws stand in front.
use Rattle.channel.proofs.DrawLaws.{Drawing}
use Rattle.channel.proofs.draw.Given as goal

abbrev pub invariant-loop-i : goal.invariant-loop-i
invariant-loop-i l =
    Drawing l.seed l.bits l.initial.pos l.pos l.state l.i
