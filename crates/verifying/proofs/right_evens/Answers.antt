-- `right_evens` tests the rule at even places. The invariant: the mismatches gathered are 0 exactly when the places passed obey it.
use mathlib.Core.Path.{◌≡◌}
use Prim.Native.Nat.{◌*◌, ◌/◌}
use native.Mathlib.Omega.{arith}
use lib.Bits.{bit_xor}
use lib.ListN.{length, get_or}
use Rattle.verifying.specs.Rule.{later}
use Rattle.verifying.proofs.GatherLaws.{gathered_none, gathered_more, gathered_answer, mismatch}
use Rattle.verifying.proofs.right_evens.Goals as goal

pub loop-k-init : goal.loop-k-init
loop-k-init c = gathered_none (λ j. get_or c.args.firsts.now (j * 2) 0 ≡ later (get_or c.args.firsts.now j 0))

pub loop-k-preserved : goal.loop-k-preserved
loop-k-preserved c =
    let at = c in
    let l = at.args.firsts.now in
    let k = at.loop-k.k in
    gathered_more (λ j. get_or l (j * 2) 0 ≡ later (get_or l j 0)) k at.loop-k.wrong (bit_xor (get_or l (k * 2) 0) c.later.result) at.loop-k.invariant
    (mismatch (get_or l (k * 2) 0) c.later.result (later (get_or l k 0)) c.later.ensures)

pub returns : goal.returns
returns c =
    let l = c.args.firsts.now in
    gathered_answer (λ j. get_or l (j * 2) 0 ≡ later (get_or l j 0)) c.loop-k.k (length l / 2) c.loop-k.wrong (omega arith) c.loop-k.invariant
