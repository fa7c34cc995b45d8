-- The conditions that a repair begins with, and a simulation too, for the inner function that judges them.
use Rattle.std.specs.Prelude.{ℕ, List, [], ◌∷◌, length}
use Rattle.base.specs.Outcome.{Condition, when}
use Rattle.poly.specs.Generators.{unfit}
use Rattle.packet.specs.Packet.{unfit_length, unfit_values}
use Rattle.packet.specs.declared.Crc.{Crc}
use Rattle.tables.specs.Tables.{unfit_tables, wrong_tables}
use Rattle.patterns.specs.Listing.{unfit_limit}

-- conditions 1, 2, 11, 3, 5 and 6, for a packet of l bits
abbrev pub setting_conditions : Crc → ℕ → List ℕ → List ℕ → ℕ → List Condition
setting_conditions c limit steps firsts l =
    let g = c.generator in
    when 1 (unfit g.coefficients)
    ∷ when 2 (unfit_length g.degree l)
    ∷ when 11 (unfit_values g.degree c.init c.xorout)
    ∷ when 3 (unfit_limit limit)
    ∷ when 5 (unfit_tables g.degree (length steps) (length firsts))
    ∷ when 6 (wrong_tables g.degree g.coefficients steps firsts)
    ∷ []
