-- `right_evens` tests the rule at even places. The invariant: the mismatches gathered are 0 exactly when the places passed obey it.
use mathlib.Core.Path.{◌≡◌}
use Prim.Native.Nat.{◌*◌}
use lib.ListN.{get_or}
use Rattle.verifying.specs.Rule.{later}
use Rattle.verifying.proofs.GatherLaws.{Gathered}
use Rattle.verifying.proofs.right_evens.Given as goal

abbrev pub invariant-loop-k : goal.invariant-loop-k
invariant-loop-k l =
    Gathered (λ j. get_or l.firsts (j * 2) 0 ≡ later (get_or l.firsts j 0)) l.k l.wrong
