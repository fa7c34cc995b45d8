-- `search_first` is the rise from count 0.
use Rattle.std.proofs.Common.{ℕ, length, arith, rules}
use Rattle.search.proofs.RisingLaws.{risen_found}
use Rattle.search.proofs.ToldLaws.{told_first}
use Rattle.search.proofs.search_first.Goals as goal

pub returns : goal.returns
returns c power t =
    let a = c.args in
    let l : ℕ = length a.powers.powers.now in
    let f = risen_found power l a.syndrome (λ xs r ys k. rw (← k.shows, ← k.leaves) (search rules)) c.rise.ensures (omega arith) in
    told_first power l (length a.pos.now) a.syndrome c.rise.result c.rise.new.pos f.0 f.1
