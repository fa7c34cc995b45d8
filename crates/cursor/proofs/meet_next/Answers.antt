-- `meet_next` is the search from positions in front of a slice, for the powers of the generator.
use Rattle.std.proofs.Common.{ℕ, List, length, take}
use Rattle.tables.specs.Tables.{power}
use Rattle.patterns.specs.Listing.{sift}
use Rattle.patterns.specs.Walk.{by_positions}
use Rattle.cursor.proofs.LookupLaws.{told_walk}
use Rattle.cursor.proofs.meet_next.Goals as goal

pub returns : goal.returns
returns c =
    let cursor = c.args.cursor in
    let g = cursor.generator in
    let q : List ℕ = take c.args.count c.args.pos.now in
    told_walk g.degree g.coefficients c.requires.0.fit.divisor (length cursor.powers.powers.now) (length c.args.pos.now) cursor.syndrome
    (λ (xs : List (List ℕ)). sift (by_positions q) xs) c.search_next.result c.search_next.new.pos
    (c.search_next.ensures (power g.degree g.coefficients) c.requires.0.lookup)
