-- `from_span` goes through the spans from `span` on, and leaves out those that have no set. The invariant: what is first from the span `d`
-- on is first from `span` on.
use mathlib.Core.Bool.{Bool}
use mathlib.Core.List.{List}
use Prim.Native.Nat.{ℕ, ◌-◌, ◌≤◌}
use lib.ListN.{length}
use Rattle.widening.specs.Widening.{FirstFromSpan}
use Rattle.widening.proofs.from_span.Given as goal

abbrev pub invariant-loop-d : goal.invariant-loop-d
invariant-loop-d l =
    (1 ≤ l.d)
    × ((r : Bool) (x : List ℕ) → FirstFromSpan l.powers (length l.initial.pos - 2) l.u l.d r x → FirstFromSpan l.powers (length l.initial.pos - 2) l.u l.span r x)

abbrev pub decreases-loop-d : goal.decreases-loop-d
decreases-loop-d l = length l.powers.powers.now - l.d
