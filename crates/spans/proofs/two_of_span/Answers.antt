-- `two_of_span` finds the first set of two of one span. The loop's invariant: what is first from `a` on is first from `from` on.
use mathlib.Core.Path.{refl}
use mathlib.Core.Bool.{true, false}
use Prim.Native.Nat.{◌+◌}
use native.Mathlib.Omega.{arith}
use lib.ListN.{length}
use Rattle.placing.proofs.NearestLaws.{set_two}
use Rattle.spans.proofs.EndLaws.{two_hit, two_miss}
use Rattle.spans.proofs.SpanLaws.{span_past}
use Rattle.spans.proofs.two_of_span.Goals as goal

pub returns-then-left-eq0 : goal.returns-then-left-eq0
returns-then-left-eq0 c =
    let i = c.loop-a in
    let d = c.args.span in
    rw (set_two i.pos i.a (i.a + d) (omega arith))
    (i.invariant true _
    (λ power t.
    two_hit power (length c.args.powers.powers.now) c.args.u i.a (i.a + d) d refl c.requires.2 c.left.result (c.left.ensures.known power t) c.if-left-eq0.true (omega arith)))

pub loop-a-preserved : goal.loop-a-preserved
loop-a-preserved c r x f =
    let i = c.loop-a in
    let d = c.args.span in
    i.invariant r x
    (λ power t.
    two_miss power (length c.args.powers.powers.now) c.args.u i.a (i.a + d) d refl c.requires.2 c.left.result (c.left.ensures.known power t) c.if-left-eq0.false r x (f power t))

pub returns : goal.returns
returns c =
    let i = c.loop-a in
    i.invariant false i.pos (λ power t. span_past power 0 c.args.u (length c.args.powers.powers.now) c.args.span i.a (omega arith))
