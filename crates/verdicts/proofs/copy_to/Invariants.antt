-- `copy_to` copies a packet. Invariant: the bytes below i are copied, and the length stays.
use mathlib.Core.Path.{◌≡◌}
use mathlib.Core.List.{List}
use Prim.Native.Nat.{ℕ, ◌≤◌, ◌<◌}
use lib.ListN.{length, get_or}
use Rattle.verdicts.proofs.copy_to.Given as goal

pub record Copied (packet output : List ℕ) (i : ℕ) : Type 0 where
  pub within : i ≤ length packet
  pub long : length output ≡ length packet
  pub same : (k : ℕ) → k < i → get_or output k 0 ≡ get_or packet k 0

abbrev pub invariant-loop-i : goal.invariant-loop-i
invariant-loop-i l =
    Copied l.packet l.output l.i
