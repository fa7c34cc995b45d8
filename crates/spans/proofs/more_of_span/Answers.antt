-- `more_of_span` finds the first set of one span. The loop's invariant: what is first from `a` on is first from `from` on.
use mathlib.Core.Path.{◌≡◌, refl, ◌∙◌}
use mathlib.Core.Bool.{true, false}
use Prim.Native.Nat.{◌+◌, ◌-◌}
use native.Mathlib.Omega.{arith}
use lib.ListN.{length}
use borrow.Rule.Slice.PartMut.{mid_of, mid_len}
use Rattle.spans.proofs.PartLaws.{part_framed}
use Rattle.spans.proofs.SpanLaws.{turn_hit, turn_miss, span_past}
use Rattle.spans.proofs.more_of_span.Goals as goal

pub returns-then-place : goal.returns-then-place
returns-then-place c =
    let i = c.loop-a in
    let p = c.place in
    let n = length c.args.pos.now in
    let d = c.args.span in
    let room : length (mid_of 1 (n - 1 - 1) i.pos) ≡ n - 2 = mid_len 1 (n - 1) i.pos (omega arith) ∙ omega arith in
    rw (part_framed i.pos p.new.pos n i.a (i.a + d) (omega arith) (omega (arith, p.auto.pos, room)))
    (i.invariant true _
    (λ power t.
    turn_hit power (n - 2) c.args.u (length c.args.powers.powers.now) i.a (i.a + d) d refl (omega arith) _ _ _ _ c.below.ensures.ends room (omega arith)
    (c.left-v.ensures.known power t)
    p.result p.new.pos (p.ensures power (c.below.ensures.known power t)) c.if-place.true (omega arith)))

pub loop-a-preserved : goal.loop-a-preserved
loop-a-preserved c r x f =
    let i = c.loop-a in
    let p = c.place in
    let n = length c.args.pos.now in
    let d = c.args.span in
    let room : length (mid_of 1 (n - 1 - 1) i.pos) ≡ n - 2 = mid_len 1 (n - 1) i.pos (omega arith) ∙ omega arith in
    i.invariant r x
    (λ power t.
    turn_miss power (n - 2) c.args.u (length c.args.powers.powers.now) i.a (i.a + d) d refl (omega arith) _ _ _ _ c.below.ensures.ends room (omega arith)
    (c.left-v.ensures.known power t)
    p.result p.new.pos (p.ensures power (c.below.ensures.known power t)) c.if-place.false r x (f power t))

pub returns : goal.returns
returns c =
    let i = c.loop-a in
    i.invariant false i.pos (λ power t. span_past power (length c.args.pos.now - 2) c.args.u (length c.args.powers.powers.now) c.args.span i.a (omega arith))
