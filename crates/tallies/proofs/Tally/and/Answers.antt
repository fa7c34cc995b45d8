-- `and` puts one candidate more in its place: behind the earliest, or in front of all.
use mathlib.Core.Path.{◌≡◌, sym, ◌∙◌}
use native.Mathlib.Omega.{arith}
use lib.Seq.{take_all}
use Rattle.patterns.specs.Patterns.{most_positions}
use Rattle.tallies.proofs.TallyLaws.{earliest-more, later-more}
use Rattle.tallies.proofs.Tally.and.Goals as goal
use Rattle.tallies.proofs.Tally.and.Goals.{in_default-via-in-Some+else-not-is_before, in_default-via-in_default}

pub returns-in-Some : goal.returns-in-Some
returns-in-Some c = later-more c.args.pos.now (omega arith) c.in-Some.is (sym c.is_before.ensures ∙ c.if-not-is_before.true)

pub returns-in_default : goal.returns-in_default
returns-in_default c kept new h =
    earliest-more c.args.pos.now (omega arith) (elim c.in_default.branch [
      | in_default-via-in-Some+else-not-is_before w ↦ λ a e.
          let same : w.in-Some.p ≡ a = cc in
          rw (← same) (sym w.is_before.ensures ∙ w.if-not-is_before.false)
      | in_default-via-in_default w ↦ λ a e. absurd (w.in_default.not-Some a e)
    ])
    (c.from_positions.ensures ∙ take_all most_positions c.args.pos.now c.requires.1) kept h
