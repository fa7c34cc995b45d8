-- The simulation's call: what it answers, and what the packet, the output and the counts lent to it then hold.
use Rattle.std.specs.Prelude.{ℕ, Bool, not, ◌||◌, List, [], ◌∷◌, eqb, ltb, length}
use Rattle.base.specs.Outcome.{Outcome, refused, accepted, Condition, when, judge}
use Rattle.poly.specs.Generators.{unfit}
use Rattle.packet.specs.Packet.{bits, unfit_length, unfit_values, crc_of}
use Rattle.packet.specs.declared.CrcNumbers.{CrcNumbers}
use Rattle.packet.specs.declared.Crc.{Crc}
use Rattle.tables.specs.Tables.{unfit_tables, wrong_tables}
use Rattle.tables.specs.declared.lent.Tables.{Tables}
use Rattle.checksum.specs.Checksum.{unfit_range, unfit_field}
use Rattle.checksum.specs.declared.Check.{Check}
use Rattle.patterns.specs.Listing.{unfit_limit}
use Rattle.repair.specs.Calls.{unfit_copy}
use Rattle.trials.specs.Trials.{Tried, counts_length, joined_rows, simulated}

-- what a simulation is given
pub record Simulation : Type 0 where
  pub crc : Crc
  pub seed : ℕ
  pub check : Check
  pub limit : ℕ
  pub trials : ℕ
  pub steps : List ℕ
  pub firsts : List ℕ
  pub packet : List ℕ
  pub output : List ℕ
  pub counts : List ℕ

abbrev pub simulation : Crc → ℕ → Check → ℕ → ℕ → List ℕ → List ℕ → List ℕ → List ℕ → List ℕ → Simulation
simulation crc seed check limit trials steps firsts packet output counts =
    record {
      crc = crc;
      seed = seed;
      check = check;
      limit = limit;
      trials = trials;
      steps = steps;
      firsts = firsts;
      packet = packet;
      output = output;
      counts = counts;
    }

-- the same of the numbers of a CRC and tables that are lent
abbrev pub simulation_by : CrcNumbers → ℕ → Check → ℕ → ℕ → Tables → List ℕ → List ℕ → List ℕ → Simulation
simulation_by n seed check limit trials t packet output counts =
    simulation (crc_of n.generator n.init n.xorout) seed check limit trials t.steps.now t.firsts.now packet output counts

-- condition 8 of a simulation: an output that is not as long as the packet, or counts of another number
unfoldable pub unfit_room : ℕ → ℕ → ℕ → Bool
unfit_room room long counts = unfit_copy room long || not (eqb counts counts_length)

-- condition 14: no trials, or more than 65,535
unfoldable pub unfit_trials : ℕ → Bool
unfit_trials n = eqb n 0 || ltb 65535 n

-- a simulation is refused by 1, 2, 11, 3, 5, 6, 8, 9, 10 and 14
abbrev pub simulate_conditions : Simulation → List Condition
simulate_conditions r =
    let g = r.crc.generator in
    when 1 (unfit g.coefficients)
    ∷ when 2 (unfit_length g.degree (bits r.packet))
    ∷ when 11 (unfit_values g.degree r.crc.init r.crc.xorout)
    ∷ when 3 (unfit_limit r.limit)
    ∷ when 5 (unfit_tables g.degree (length r.steps) (length r.firsts))
    ∷ when 6 (wrong_tables g.degree g.coefficients r.steps r.firsts)
    ∷ when 8 (unfit_room (length r.output) (length r.packet) (length r.counts))
    ∷ when 9 (unfit_range g.degree (bits r.packet) r.check)
    ∷ when 10 (unfit_field r.check)
    ∷ when 14 (unfit_trials r.trials)
    ∷ []

-- what an accepted simulation comes to
abbrev pub outcome : Simulation → Tried
outcome r = simulated r.crc r.check r.limit r.trials r.seed r.packet r.output

-- the answer, which is the state after the last draw
abbrev pub simulate_call : Simulation → Outcome ℕ
simulate_call r = judge (simulate_conditions r) refused (accepted (outcome r).state)

-- the packet, the output and the counts after the call
abbrev pub simulate_packet : Simulation → List ℕ
simulate_packet r = judge (simulate_conditions r) (λ _. r.packet) (outcome r).packet

abbrev pub simulate_output : Simulation → List ℕ
simulate_output r = judge (simulate_conditions r) (λ _. r.output) (outcome r).output

abbrev pub simulate_counts : Simulation → List ℕ
simulate_counts r = judge (simulate_conditions r) (λ _. r.counts) (joined_rows (outcome r).counts)
