-- `below` finds the gap: where a position is too high, those before it are not.
use native.Mathlib.Omega.{arith}
use Rattle.channel.proofs.TakingLaws.{gap_met}
use Rattle.channel.proofs.below.Goals as goal

pub returns-then-due-p-clause-gap : goal.returns-then-due-p-clause-gap
returns-then-due-p-clause-gap c = λ l a. gap_met _ a (omega arith) c.loop-i.invariant (λ h. omega (arith, c.if-due-p.true))
