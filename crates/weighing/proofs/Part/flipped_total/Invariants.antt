-- `flipped_total` adds what the clear bits count and takes away what the set bits count. Invariant: what was added, with
-- what the positions left count, is all; and the same for what is taken away.
use mathlib.Core.Path.{◌≡◌}
use mathlib.Core.List.{List}
use Prim.Native.Nat.{ℕ, ◌+◌, ◌*◌, ◌≤◌}
use lib.ListN.{drop}
use Rattle.weighing.specs.Totals.{set_weight, clear_weight}
use Rattle.weighing.proofs.Part.flipped_total.Given as goal

pub record Weighing (from to : ℕ) (packet pos : List ℕ) (plus minus i : ℕ) : Type 0 where
  pub adding : plus + clear_weight from to packet (drop i pos) ≡ clear_weight from to packet pos
  pub taking : minus + set_weight from to packet (drop i pos) ≡ set_weight from to packet pos
  pub few : plus ≤ 32768 * i
  pub less : minus ≤ 32768 * i

abbrev pub invariant-loop-p : goal.invariant-loop-p
invariant-loop-p l = Weighing l.self.from l.self.to l.self.packet.now l.pos l.plus l.minus l.p-index
