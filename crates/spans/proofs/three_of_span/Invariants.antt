-- `three_of_span` finds the first set of three of one span. The loop's invariant: what is first with the larger end from `b` on is first
-- with the smaller end from `from` on.
use mathlib.Core.Bool.{Bool}
use mathlib.Core.List.{List}
use Prim.Native.Nat.{ℕ, ◌-◌}
use Rattle.spans.specs.Spans.{FirstOfSpan}
use Rattle.spans.proofs.three_of_span.Given as goal

abbrev pub invariant-loop-b : goal.invariant-loop-b
invariant-loop-b l = (r : Bool) (x : List ℕ) → FirstOfSpan l.powers 1 l.u l.span (l.b - l.span) r x → FirstOfSpan l.powers 1 l.u l.span l.from r x
