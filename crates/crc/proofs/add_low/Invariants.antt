-- `add_low` XORs a number into the last bytes. Invariant: the bytes below i are as at first, and what is left to add to
-- them, followed by the bytes done, is the whole sum. i falls.
use mathlib.Core.Path.{◌≡◌}
use mathlib.Core.List.{List, ◌++◌}
use Prim.Native.Nat.{ℕ}
use lib.Bits.{bit_xor}
use lib.ListN.{length, take, drop}
use Rattle.packet.specs.Packet.{polynomial, bytes_of}
use Rattle.crc.proofs.add_low.Given as goal

pub record Adding (q p : List ℕ) (value left i : ℕ) : Type 0 where
  pub kept : take i p ≡ take i q
  pub sum : bytes_of i (bit_xor (polynomial (take i q)) left) ++ drop i p ≡ bytes_of (length q) (bit_xor (polynomial q) value)

abbrev pub invariant-loop-i : goal.invariant-loop-i
invariant-loop-i l =
    Adding l.initial.packet l.packet l.value l.left l.i
