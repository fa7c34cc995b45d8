-- `get_positions` reads two bytes a position. Invariant: the positions below i are read.
use mathlib.Core.Path.{◌≡◌}
use Prim.Native.Nat.{ℕ, ◌+◌, ◌*◌, ◌<◌}
use lib.ListN.{get_or}
use Rattle.records.proofs.get_positions.Given as goal

abbrev pub invariant-loop-i : goal.invariant-loop-i
invariant-loop-i l = (k : ℕ) → k < l.i → get_or l.pos k 0 ≡ get_or l.bytes (2 * k) 0 * 256 + get_or l.bytes (2 * k + 1) 0
