-- `order_first` is the rise from count 0.
use Rattle.std.proofs.Common.{ℕ, length, rules, arith}
use lib.ListN.{length-take}
use Rattle.search.proofs.RisingLaws.{risen_within}
use Rattle.ordered.proofs.RiseLaws.{risen_among}
use Rattle.ordered.proofs.order_first.Goals as goal

pub returns-clause-first : goal.returns-clause-first
returns-clause-first c power t =
    let a = c.args in
    risen_among power (length a.powers.powers.now) (length a.pos.now) a.syndrome (λ xs r ys k. rw (← k.shows, ← k.leaves) (search rules)) (omega (arith, length-take {A = ℕ})) c.rise.ensures

pub returns-clause-counted : goal.returns-clause-counted
returns-clause-counted c = risen_within c.rise.ensures
