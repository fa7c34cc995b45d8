-- `meet_first` is the search from the start, for the powers of the generator.
use Rattle.std.proofs.Common.{ℕ, List, length}
use Rattle.tables.specs.Tables.{power}
use Rattle.cursor.proofs.LookupLaws.{told_walk}
use Rattle.cursor.proofs.meet_first.Goals as goal

pub returns : goal.returns
returns c =
    let cursor = c.args.cursor in
    let g = cursor.generator in
    told_walk g.degree g.coefficients c.requires.fit.divisor (length cursor.powers.powers.now) (length c.args.pos.now) cursor.syndrome
    (λ (xs : List (List ℕ)). xs) c.search_first.result c.search_first.new.pos
    (c.search_first.ensures (power g.degree g.coefficients) c.requires.lookup)
