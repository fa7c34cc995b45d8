-- `rise` ends at the first count at which the step finds something. The loop's invariant: it found nothing at the counts below `k`.
use Rattle.std.proofs.Common.{◌≡◌, refl, ◌∙◌, arith}
use lib.Seq.{length-take-le}
use Rattle.base.proofs.Cases.{by_order}
use Rattle.search.proofs.rise.Goals as goal
use Rattle.search.proofs.rise.Goals.{else-loop-k-test, then-loop-k-test+else-step+else-k-k-end}

pub loop-k-preserved : goal.loop-k-preserved
loop-k-preserved g c j from to =
    let i = c.loop-k in
    by_order j i.k (λ below. i.invariant j from below)
    (λ at.
    let e : i.k ≡ j = omega arith in (
      _,
      c.step.new.arg2,
      length-take-le i.k i.pos (omega arith) ∙ e,
      record { shown = _; shows = refl; left = _; met = rw c.if-step.false at c.step.ensures; leaves = refl },
    ))

pub returns : goal.returns
returns g c = record {
  first = λ j from to.
      let i = c.loop-k in
      elim c.loop-k-test.branch [
        | else-loop-k-test w ↦ i.invariant j from (omega arith)
        | then-loop-k-test+else-step+else-k-k-end w ↦
            by_order j i.k (λ below. i.invariant j from below)
            (λ at.
            let e : i.k ≡ j = omega arith in (
              _,
              w.step.new.arg2,
              length-take-le i.k i.pos (omega arith) ∙ e,
              record { shown = _; shows = refl; left = _; met = rw w.if-step.false at w.step.ensures; leaves = refl },
            ))
      ];
}
