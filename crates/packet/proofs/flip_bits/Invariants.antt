-- `flip_bits` flips position after position. Invariant: flipping what is left makes the whole, and the length stays.
use mathlib.Core.Path.{◌≡◌}
use mathlib.Core.List.{List}
use Prim.Native.Nat.{ℕ}
use lib.ListN.{length, drop}
use Rattle.packet.specs.Packet.{flips}
use Rattle.packet.proofs.flip_bits.Given as goal

pub record Flipping (first packet pos : List ℕ) (i : ℕ) : Type 0 where
  pub long : length packet ≡ length first
  pub whole : flips packet (drop i pos) ≡ flips first pos

abbrev pub invariant-loop-p : goal.invariant-loop-p
invariant-loop-p l = Flipping l.initial.packet l.packet l.pos l.p-index
