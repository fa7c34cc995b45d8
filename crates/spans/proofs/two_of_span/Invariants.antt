-- `two_of_span` finds the first set of two of one span. The loop's invariant: what is first from `a` on is first from `from` on.
use mathlib.Core.Bool.{Bool}
use mathlib.Core.List.{List}
use Prim.Native.Nat.{ℕ}
use Rattle.spans.specs.Spans.{FirstOfSpan}
use Rattle.spans.proofs.two_of_span.Given as goal

abbrev pub invariant-loop-a : goal.invariant-loop-a
invariant-loop-a l = (r : Bool) (x : List ℕ) → FirstOfSpan l.powers 0 l.u l.span l.a r x → FirstOfSpan l.powers 0 l.u l.span l.from r x
