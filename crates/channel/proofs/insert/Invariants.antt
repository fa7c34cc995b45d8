-- `insert` moves up what stands from an index on, from the last down. Invariant: all behind i - 1 has moved. i falls.
use Prim.Native.Nat.{◌-◌}
use Rattle.channel.proofs.MovedLaws.{Moved}
use Rattle.channel.proofs.insert.Given as goal

abbrev pub invariant-loop-i : goal.invariant-loop-i
invariant-loop-i l =
    Moved l.at l.initial.pos l.pos (l.i - 1)
