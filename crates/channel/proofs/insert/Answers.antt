-- `insert` moves up what stands from an index on, from the last down. Invariant: all behind i - 1 has moved. i falls.
use native.Mathlib.Omega.{arith}
use Rattle.channel.proofs.MovedLaws.{moved_none, moved_more, moved_all}
use Rattle.channel.proofs.insert.Goals as goal

pub loop-i-init : goal.loop-i-init
loop-i-init c = moved_none _ (omega (arith, c.requires)) (omega arith)

pub loop-i-preserved : goal.loop-i-preserved
loop-i-preserved c = let l = c.loop-i in moved_more _ l.invariant (omega arith) (omega arith)

pub returns : goal.returns
returns c = moved_all _ c.loop-i.invariant (omega arith)
