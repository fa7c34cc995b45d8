-- `tally_by` meets the first set, and tallies from there: the whole walk, and so the list.
use mathlib.Core.Path.{◌≡◌, subst}
use mathlib.Core.Bool.{Bool}
use mathlib.Core.List.{List}
use Prim.Native.Nat.{ℕ}
use native.Mathlib.Omega.{arith}
use borrow.Author.Rules.{rules}
use lib.ListN.{length}
use Rattle.packet.specs.Packet.{flips}
use Rattle.checksum.specs.Checksum.{passes}
use Rattle.patterns.specs.Walk.{by_positions}
use Rattle.patterns.proofs.CountLaws.{walk_fits}
use Rattle.patterns.proofs.WalkLaws.{walk_meets, met_in_any_order}
use Rattle.cursor.proofs.AheadLaws.{told_fits}
use Rattle.tallies.specs.Tallies.{Tallied, met_by}
use Rattle.tallies.proofs.TallyLaws.{started}
use Rattle.tallies.proofs.tally_by.Goals as goal

pub tally_from-requires : goal.tally_from-requires
tally_from-requires c =
    let a = c.args in
    let g = a.cursor.generator in
    let l : ℕ = length a.cursor.powers.powers.now in
    let m : ℕ = length a.pos.now in
    let xs : List (List ℕ) = met_by a.cursor m in
    let b = c.meet_first-found in
    let next = b.new.pos in
    let kept : length next ≡ m = search rules in
    let whole = started l m xs b.result next b.ensures in (
      c.requires.0,
      told_fits by_positions l m xs xs b.result next b.ensures (omega (arith, kept)),
      rw kept c.requires.1,
      rw (kept, whole) (walk_fits g.degree g.coefficients l m a.cursor.syndrome c.requires.0.prepared.ready.shape.short (omega (arith, c.requires.1))),
    )

pub returns : goal.returns
returns c =
    let a = c.args in
    let g = a.cursor.generator in
    let l : ℕ = length a.cursor.powers.powers.now in
    let m : ℕ = length a.pos.now in
    let b = c.meet_first-found in
    let P : List ℕ → Bool = λ ps. passes a.weighed.check (flips a.weighed.packet.now ps) in
    let kept : length b.new.pos ≡ m = search rules in
    let whole = started l m (met_by a.cursor m) b.result b.new.pos b.ensures in
    subst (λ (xs : List (List ℕ)). Tallied xs c.tally_from.result)
    (met_in_any_order g.degree g.coefficients l m a.cursor.syndrome (walk_meets g.degree g.coefficients l m a.cursor.syndrome) P)
    (rw (kept, whole) at c.tally_from.ensures)
