-- `tally_from` counts the patterns that pass from the one found on, and keeps the earliest. Invariant: `Tallying` of the laws.
use mathlib.Core.Path.{◌≡◌, refl, sym, ◌∙◌}
use native.Mathlib.Omega.{arith}
use borrow.Author.Rules.{rules}
use lib.ListN.{length}
use lib.Seq.{length-take-le}
use Rattle.patterns.specs.Walk.{by_positions}
use Rattle.patterns.proofs.WalkLaws.{walk_sorted}
use Rattle.cursor.proofs.AheadLaws.{told_from}
use Rattle.tallies.specs.Tallies.{met_by}
use Rattle.tallies.proofs.TallyLaws.{tallying_none, tallied_all, tallying_passed, tallying_failed, found_placed, countable, new}
use Rattle.tallies.proofs.tally_from.Goals as goal
use Rattle.tallies.proofs.tally_from.Goals.{then-passes_flipped, else-passes_flipped}

pub loop-ahead-init : goal.loop-ahead-init
loop-ahead-init c = tallying_none _ _ _ _ _ _ c.requires.1 (walk_sorted _ _ _ _ _) (record { number = refl; first = refl })

pub and-tally-requires : goal.and-tally-requires
and-tally-requires c =
    let f = c.loop-ahead.invariant in
    let placed = (found_placed f c.in-Some.is).0 in
    (countable f c.in-Some.is c.requires.3, rw (length-take-le _ _ placed) (omega (arith, placed, f.placed, c.requires.2)))

pub loop-ahead-preserved : goal.loop-ahead-preserved
loop-ahead-preserved c =
    let a = c.args in
    let f = c.loop-ahead.invariant in
    let m = c.meet_next-ahead in
    let l : length m.new.pos ≡ length c.loop-ahead.pos = search rules in
    let next = told_from by_positions (met_by a.cursor) (length a.cursor.powers.powers.now) m.result m.new.pos f.placed refl m.ensures in
    elim c.if-passes_flipped.branch [
      | then-passes_flipped w ↦
          let yes = sym c.passes_flipped.ensures ∙ w.if-passes_flipped.true in
          rw w.tally-is (tallying_passed f c.in-Some.is m.result m.new.pos next (l ∙ f.placed) yes (w.and-tally.ensures f.kept (new f c.in-Some.is yes) f.tallied))
      | else-passes_flipped w ↦ tallying_failed f c.in-Some.is m.result m.new.pos next (l ∙ f.placed) (sym c.passes_flipped.ensures ∙ w.if-passes_flipped.false) w.tally-is
    ]

pub returns : goal.returns
returns c = tallied_all c.loop-ahead.invariant c.in_default.is
