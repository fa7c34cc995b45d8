-- `right_odds` tests the rule at odd places above 1. The invariant: the mismatches gathered are 0 exactly when the places passed obey it.
use mathlib.Core.Path.{◌≡◌}
use Prim.Native.Nat.{◌+◌, ◌*◌, ◌≤◌}
use lib.Bits.{bit_xor}
use lib.ListN.{get_or}
use Rattle.verifying.specs.Rule.{later}
use Rattle.verifying.proofs.GatherLaws.{Gathered}
use Rattle.verifying.proofs.right_odds.Given as goal

abbrev pub invariant-loop-k : goal.invariant-loop-k
invariant-loop-k l =
    Gathered (λ j. 1 ≤ j → get_or l.firsts (j * 2 + 1) 0 ≡ later (get_or l.firsts (bit_xor j l.half) 0)) l.k l.wrong
