-- `right_odds` tests the rule at odd places above 1. The invariant: the mismatches gathered are 0 exactly when the places passed obey it.
use mathlib.Core.Path.{◌≡◌, refl}
use Prim.Native.Nat.{◌+◌, ◌*◌, ◌/◌, ◌≤◌, ◌<◌}
use native.Mathlib.Omega.{arith}
use lib.Bits.{bit_xor}
use lib.ListN.{length, get_or}
use Rattle.poly.proofs.GeneratorLaws.{fit_small}
use mathlib.Core.List.{List}
use Prim.Native.Nat.{ℕ}
use Rattle.poly.specs.declared.Generator.{Generator}
use Rattle.tables.specs.Lent.{Lent}
use Rattle.verifying.specs.Rule.{later}
use Rattle.verifying.proofs.RuleLaws.{odd_step_lt}
use Rattle.verifying.proofs.GatherLaws.{gathered_more, gathered_answer, mismatch}
use Rattle.verifying.proofs.right_odds.Goals as goal

pub loop-k-init : goal.loop-k-init
loop-k-init c =
    ((λ z k h p. absurd (omega arith)), (λ h. refl))

-- the step of the place is a place
small_step : (g : Generator) (l : List ℕ) (k : ℕ) → Lent g l → k < length l / 2 → bit_xor k (g.coefficients / 2) < length l
small_step g l k lent h =
    odd_step_lt g.degree g.coefficients lent.fit.divisor (fit_small g lent.fit).positive lent.fit.most l lent.full k h

pub offset_bounds-firsts-k-in-loop-k : goal.offset_bounds-firsts-k-in-loop-k
offset_bounds-firsts-k-in-loop-k c =
    let e = c in
    omega (arith, small_step c.args.g c.args.firsts.now c.loop-k.k c.requires (omega arith), fit_small e.args.g e.requires.fit)

pub bounds-firsts-k-in-loop-k : goal.bounds-firsts-k-in-loop-k
bounds-firsts-k-in-loop-k c = small_step c.args.g c.args.firsts.now c.loop-k.k c.requires (omega arith)

pub loop-k-preserved : goal.loop-k-preserved
loop-k-preserved c =
    let at = c in
    let l = at.args.firsts.now in
    let half = at.args.g.coefficients / 2 in
    let k = at.loop-k.k in
    let same = mismatch (get_or l (k * 2 + 1) 0) c.later.result (later (get_or l (bit_xor k half) 0)) c.later.ensures in
    gathered_more (λ j. 1 ≤ j → get_or l (j * 2 + 1) 0 ≡ later (get_or l (bit_xor j half) 0)) k at.loop-k.wrong
    (bit_xor (get_or l (k * 2 + 1) 0) c.later.result) at.loop-k.invariant
    ((λ z p. same.0 z), (λ h. same.1 (h (omega arith))))

pub returns : goal.returns
returns c =
    let e = c in
    let l = e.args.firsts.now in
    gathered_answer (λ j. 1 ≤ j → get_or l (j * 2 + 1) 0 ≡ later (get_or l (bit_xor j (e.args.g.coefficients / 2)) 0)) c.loop-k.k (length l / 2) c.loop-k.wrong (omega (arith, e.requires.full, fit_small e.args.g e.requires.fit)) c.loop-k.invariant
