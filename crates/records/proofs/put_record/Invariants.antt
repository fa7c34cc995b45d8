-- `put_record` writes the record byte by byte. The invariant: storing what is left of the positions, from `to` on, gives
-- what storing them all at the start would have given.
use mathlib.Core.Path.{◌≡◌}
use Prim.Native.Nat.{◌+◌, ◌*◌}
use lib.ListN.{drop}
use lib.Seq.{sets}
use Rattle.records.specs.Records.{position_bytes}
use Rattle.records.proofs.put_record.Given as goal

abbrev pub invariant-loop-p : goal.invariant-loop-p
invariant-loop-p l =
    (l.to ≡ l.at + 1 + 2 * l.p-index) × (sets l.out l.to (position_bytes (drop l.p-index l.pos)) ≡ sets l.initial.out (l.at + 1) (position_bytes l.pos))
