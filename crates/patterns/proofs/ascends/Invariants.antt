-- `ascends` is the test of its definition. The invariant: what is left passes from `from` on exactly as the whole does.
use mathlib.Core.Path.{◌≡◌}
use lib.ListN.{drop}
use Rattle.patterns.specs.Listing.{ascending}
use Rattle.patterns.proofs.ascends.Given as goal

abbrev pub invariant-loop-x : goal.invariant-loop-x
invariant-loop-x l = ascending l.l l.from (drop l.x-index l.pos) ≡ ascending l.l 0 l.pos
