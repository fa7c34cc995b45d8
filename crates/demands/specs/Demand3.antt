-- What demand 3 supposes, and what its calls are given.
use Rattle.std.specs.Prelude.{ℕ, ◌≤◌, ◌≡◌, false, List, length}
use Rattle.poly.specs.Generators.{unfit}
use Rattle.packet.specs.Packet.{Bytes, bits, unfit_length, unfit_values}
use Rattle.packet.specs.declared.Crc.{Crc}
use Rattle.checksum.specs.Checksum.{unfit_range}
use Rattle.checksum.specs.declared.Check.{Check}
use Rattle.tables.specs.Tables.{step_table, first_table}
use Rattle.patterns.specs.Listing.{unfit_limit}
use Rattle.records.specs.Records.{longest_record}
use Rattle.pages.specs.Sequences.{Lending}
use Rattle.repair.specs.Calls.{Repair, repair_request, unfit_check_field}
use Rattle.demands.specs.Demand2.{Numbered}

-- an accepted generator, packet s of bytes, initial and final value, limit, range and field: none of conditions 1, 2, 11, 3, 9 and 10
-- applies
pub record Supposed (c : Crc) (k : Check) (limit : ℕ) (s : List ℕ) : Type 0 where
  pub bytes : Bytes s
  pub numbered : Numbered c
  pub fit_generator : unfit c.generator.coefficients ≡ false
  pub fit_length : unfit_length c.generator.degree (bits s) ≡ false
  pub fit_values : unfit_values c.generator.degree c.init c.xorout ≡ false
  pub fit_limit : unfit_limit limit ≡ false
  pub fit_range : unfit_range c.generator.degree (bits s) k ≡ false
  pub fit_check_field : unfit_check_field k ≡ false

-- a repair with that CRC, range, field, limit and packet: tables and output are lent anew at each call
abbrev pub repair_with : Crc → Check → ℕ → List ℕ → Lending → Repair
repair_with c k limit s lent = repair_request c k limit lent.steps lent.firsts s lent.output

-- what is lent is as a page call needs it: right tables, and room for the longest record
pub record Roomy (c : Crc) (lent : Lending) : Type 0 where
  pub right_steps : lent.steps ≡ step_table c.generator.degree c.generator.coefficients
  pub right_firsts : lent.firsts ≡ first_table c.generator.degree c.generator.coefficients
  pub room : longest_record ≤ length lent.output
