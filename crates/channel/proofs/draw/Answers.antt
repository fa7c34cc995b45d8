-- `draw` takes one position after the other. Invariant: the first i draws stand in front.
use mathlib.Core.Path.{refl}
use Rattle.channel.proofs.DrawLaws.{drawing_none, drawing_more}
use Rattle.channel.proofs.draw.Goals as goal

pub loop-i-init : goal.loop-i-init
loop-i-init c = drawing_none _ _ _

pub loop-i-preserved : goal.loop-i-preserved
loop-i-preserved c =
    drawing_more c.loop-i.invariant c.loop-i-test.true c.requires.0 c.next_state-next.result _ _ c.next_state-next.ensures refl c.take_at.ensures
