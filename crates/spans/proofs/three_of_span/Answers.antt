-- `three_of_span` finds the first set of three of one span. The loop's invariant: what is first with the larger end from `b` on is first
-- with the smaller end from `from` on.
use mathlib.Core.Path.{◌≡◌}
use mathlib.Core.Bool.{true, false}
use Prim.Native.Nat.{ℕ, ◌+◌, ◌-◌}
use native.Mathlib.Omega.{arith}
use lib.ListN.{length}
use Rattle.spans.proofs.EndLaws.{three_hit, three_miss, set_three}
use Rattle.spans.proofs.SpanLaws.{span_past}
use Rattle.spans.proofs.three_of_span.Goals as goal

pub returns-in-Some : goal.returns-in-Some
returns-in-Some c =
    let i = c.loop-b in
    let near = c.in-Some.ensures in
    let d = c.args.span in
    let a : ℕ = i.b - d in
    rw (set_three i.pos a c.in-Some.c i.b (omega arith))
    (i.invariant true _
    (λ power t.
    three_hit power (length c.args.powers.powers.now) c.args.u a i.b d (omega arith) c.requires.2 _ _ (omega arith) (c.left-v.ensures.known power t)
    c.in-Some.c (near.0, near.1 power t) (omega arith)))

pub loop-b-preserved : goal.loop-b-preserved
loop-b-preserved c r x f =
    let i = c.loop-b in
    let d = c.args.span in
    let a : ℕ = i.b - d in
    let e : i.b + 1 - d ≡ i.b - d + 1 = omega arith in
    i.invariant r x
    (λ power t.
    three_miss power (length c.args.powers.powers.now) c.args.u a i.b d (omega arith) c.requires.2 _ _ (omega arith) (c.left-v.ensures.known power t)
    (c.in_default.ensures power t) r x (rw e at (f power t)))

pub returns : goal.returns
returns c =
    let i = c.loop-b in
    i.invariant false i.pos (λ power t. span_past power 1 c.args.u (length c.args.powers.powers.now) c.args.span (i.b - c.args.span) (omega arith))
