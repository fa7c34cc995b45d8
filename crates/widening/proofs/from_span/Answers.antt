-- `from_span` goes through the spans from `span` on, and leaves out those that have no set. The invariant: what is first from the span `d`
-- on is first from `span` on.
use mathlib.Core.Path.{◌≡◌}
use mathlib.Core.Bool.{true, false}
use mathlib.Core.List.{List}
use Prim.Native.Nat.{ℕ, ◌-◌}
use native.Mathlib.Omega.{arith}
use lib.ListN.{length}
use Rattle.patterns.specs.Order.{before}
use Rattle.patterns.specs.StrictOrder.{Foremost}
use Rattle.spans.specs.Spans.{OfSpan}
use Rattle.widening.proofs.WidenLaws.{wide_hit, wide_miss, wide_past, spans_left_out}
use Rattle.widening.proofs.from_span.Goals as goal

pub returns-then-of_span : goal.returns-then-of_span
returns-then-of_span c =
    let i = c.loop-d in
    let o = c.of_span in
    let m = c.next_span-e in
    let k : ℕ = length c.args.pos.now - 2 in
    let l : ℕ = length c.args.powers.powers.now in
    let ys : List ℕ = o.new.pos in
    let same : length i.pos ≡ length c.args.pos.now = omega arith in
    i.invariant.1 true ys
    (λ power t.
    let hit : Foremost before (OfSpan power l k c.args.u m.result 0) ys = rw (c.if-of_span.true, same) at (o.ensures power t) in
    spans_left_out power l k c.args.u m.ensures.bounds.0 (rw same at (m.ensures.none power t)) true ys
    (wide_hit power l k c.args.u m.result ys hit))

pub loop-d-preserved : goal.loop-d-preserved
loop-d-preserved c =
    let i = c.loop-d in
    let o = c.of_span in
    let m = c.next_span-e in
    let k : ℕ = length c.args.pos.now - 2 in
    let l : ℕ = length c.args.powers.powers.now in
    let same : length i.pos ≡ length c.args.pos.now = omega arith in (
      omega arith,
      λ r x f.
          i.invariant.1 r x
          (λ power t.
          let none : (y : List ℕ) → OfSpan power l k c.args.u m.result 0 y → ⊥ = rw (c.if-of_span.false, same) at (o.ensures power t) in
          spans_left_out power l k c.args.u m.ensures.bounds.0 (rw same at (m.ensures.none power t)) r x
          (wide_miss power l k c.args.u m.result r x none (f power t))),
    )

pub returns : goal.returns
returns c =
    let i = c.loop-d in
    i.invariant.1 false i.pos (λ power t. wide_past power (length c.args.powers.powers.now) (length c.args.pos.now - 2) c.args.u i.d (omega arith))
