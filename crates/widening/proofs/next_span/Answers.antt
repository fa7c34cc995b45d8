-- `next_span`: of two positions, every set of a span from `span` on has one of `best` or more. The invariant says so of the sets
-- whose smallest position is below `a`.
use mathlib.Core.Path.{◌≡◌, ap}
use Prim.Native.Nat.{ℕ, ◌+◌, ◌-◌}
use native.Mathlib.Omega.{arith}
use lib.Bits.{bit_xor}
use lib.ListN.{length}
use Rattle.placing.proofs.NearestLaws.{ready_next}
use Rattle.widening.proofs.PairLaws.{pairs_turn, pairs_spanless}
use Rattle.widening.proofs.next_span.Goals as goal
use Rattle.widening.proofs.next_span.Goals.{in-Some+else-b-a, in_default}

pub nearest-requires : goal.nearest-requires
nearest-requires c = ready_next c.requires.0 c.loop-a.a (omega arith) (omega arith)

pub loop-a-preserved : goal.loop-a-preserved
loop-a-preserved c =
    let i = c.loop-a in
    let l : ℕ = length c.args.powers.powers.now in
    elim c.match-nearest.branch [
      | in-Some+else-b-a w ↦ (
        omega arith,
        omega arith,
        λ power t.
            pairs_turn power l c.args.u c.args.span i.best i.a w.in-Some.b _ (i.a + c.args.span) c.match-nearest.best
            (ap (bit_xor c.args.u) (t.known i.a (omega arith))) (omega arith) (w.in-Some.ensures.1 power t) (i.invariant.2 power t) (omega arith) (λ h. omega arith),
      )
      | in_default w ↦ (
        omega arith,
        omega arith,
        λ power t.
            pairs_turn power l c.args.u c.args.span i.best i.a l _ (i.a + c.args.span) c.match-nearest.best
            (ap (bit_xor c.args.u) (t.known i.a (omega arith))) (omega arith) (w.in_default.ensures power t) (i.invariant.2 power t) (omega arith) (λ h. omega arith),
      )
    ]

pub returns-clause-none : goal.returns-clause-none
returns-clause-none c power t =
    let i = c.loop-a in
    let e : c.args.count - 2 ≡ 0 = omega arith in
    rw e (pairs_spanless power (length c.args.powers.powers.now) c.args.u c.args.span i.best i.a (omega arith) (i.invariant.2 power t))
