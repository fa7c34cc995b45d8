-- `simulate_by` runs all rows, from none on, which is what is simulated.
use mathlib.Core.Path.{ap, ◌∙◌}
use Rattle.trials.specs.Trials.{Tried, joined_rows, simulated}
use Rattle.simulation.proofs.simulate_by.Goals as goal

pub returns : goal.returns
unfolding simulated
returns c =
    let e = c.run_rows-rows.ensures in
    record {
      state = ap (λ (t : Tried). t.state) e;
      packet = ap (λ (t : Tried). t.packet) e;
      output = ap (λ (t : Tried). t.output) e;
      counts = c.put_rows.ensures ∙ ap (λ (t : Tried). joined_rows t.counts) e;
    }
