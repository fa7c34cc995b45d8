-- `beyond` finds the first set of its count that follows one: with the same ends, of the same span, or of a greater one.
use mathlib.Core.Path.{◌≡◌, sym, ◌∙◌}
use mathlib.Core.Bool.{true, false, true≢false}
use Prim.Native.Nat.{suc, ◌-◌}
use native.Mathlib.Omega.{arith}
use lib.ListN.{length}
use Rattle.spans.proofs.FrameLaws.{cut}
use Rattle.widening.proofs.BeyondLaws.{found_between, found_further, found_wider}
use Rattle.widening.proofs.beyond.Goals as goal
use Rattle.widening.proofs.beyond.Goals.{then-between, else-between}

pub overflow_sub-b-else-between : goal.overflow_sub-b-else-between
overflow_sub-b-else-between c = let k = cut c.args.pos.now c.requires.2 c.requires.1 in omega (arith, k.apart)

pub of_span-requires : goal.of_span-requires
of_span-requires c =
    let k = cut c.args.pos.now c.requires.2 c.requires.1 in
    (c.requires.0, omega (arith, c.between.auto.pos, c.requires.1), omega (arith, k.apart), omega (arith, k.below), omega (arith, k.apart, k.below))

pub overflow_sub-b-else-of_span : goal.overflow_sub-b-else-of_span
overflow_sub-b-else-of_span c = let k = cut c.args.pos.now c.requires.2 c.requires.1 in omega (arith, k.apart)

pub returns-then-of_span : goal.returns-then-of_span
returns-then-of_span c power t =
    let m = c.between in
    let q = c.args.pos.now in
    let two : length q ≡ suc (suc (length q - 2)) = omega (arith, c.requires.1) in
    elim c.if-between.branch [
      | then-between w ↦
          rw (w.value-is, w.pos-is, w.if-between.true)
          (found_between power c.args.u (cut q c.requires.2 c.requires.1) two m.new.pos (rw w.if-between.true at (m.ensures power t)))
      | else-between w ↦
          let o = w.of_span in
          let found : o.result ≡ true = sym w.value-is ∙ c.if-of_span.true in
          rw (w.value-is, w.pos-is, found)
          (found_further power c.args.u (cut q c.requires.2 c.requires.1) two (rw w.if-between.false at (m.ensures power t)) _ _ (omega arith) (omega arith)
          o.new.pos (rw (found, m.auto.pos) at (o.ensures power t)))
    ]

pub returns-else-of_span : goal.returns-else-of_span
returns-else-of_span c power t =
    let m = c.between in
    let q = c.args.pos.now in
    let two : length q ≡ suc (suc (length q - 2)) = omega (arith, c.requires.1) in
    let kept : length c.if-between.pos ≡ length q = c.if-between.auto.pos ∙ m.auto.pos in
    elim c.if-between.branch [
      | then-between w ↦ absurd (true≢false (sym w.if-between.true ∙ sym w.value-is ∙ c.if-of_span.false))
      | else-between w ↦
          let o = w.of_span in
          let gone : o.result ≡ false = sym w.value-is ∙ c.if-of_span.false in
          found_wider power c.args.u (cut q c.requires.2 c.requires.1) two (rw w.if-between.false at (m.ensures power t)) _ _ (omega arith) (omega arith)
          (rw (gone, m.auto.pos) at (o.ensures power t)) _ (omega arith) c.from_span.result c.from_span.new.pos (rw kept at (c.from_span.ensures power t))
    ]
