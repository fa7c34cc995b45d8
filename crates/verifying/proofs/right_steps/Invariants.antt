-- `right_steps` compares the step table, two entries a turn. The invariant: the mismatches gathered are 0 exactly when the pairs
-- passed are right, and the rest of the table is still to come.
use mathlib.Core.Path.{◌≡◌}
use mathlib.Core.List.{List}
use Prim.Native.Nat.{ℕ, ◌+◌, ◌*◌, ◌≤◌}
use lib.Bits.{bit_xor}
use lib.ListN.{length, get_or, drop}
use Rattle.verifying.proofs.GatherLaws.{Gathered}
use Rattle.verifying.proofs.right_steps.Given as goal

pub record Compared (steps : List ℕ) (half : ℕ) (rest : List ℕ) (size k wrong : ℕ) : Type 0 where
  pub pairs : size ≡ 2
  pub within : k * 2 ≤ length steps
  pub left : rest ≡ drop (k * 2) steps
  pub gathered : Gathered (λ j. (get_or steps (j * 2) 0 ≡ j) × (get_or steps (j * 2 + 1) 0 ≡ bit_xor j half)) k wrong

abbrev pub invariant-loop-k : goal.invariant-loop-k
invariant-loop-k l =
    Compared l.steps l.half l.k-iterator.iter.rest.now l.k-iterator.iter.size l.k-iterator.count l.wrong
