-- `place` finds the first set of as many positions as there is room for. It ends since each call has one position
-- less to place. The loop's invariant: no such set starts between `lo` and `a`.
use Rattle.std.proofs.Common.{◌≡◌, ℕ, suc, ◌-◌, length, sym, ap, ◌∙◌, arith}
use Rattle.placing.specs.Placing.{first_from}
use Rattle.placing.proofs.HeadLaws.{first_from_past}
use Rattle.placing.proofs.NearestLaws.{ready_next}
use Rattle.placing.proofs.TailLaws.{tail_length, place_hit, place_miss}
use Rattle.placing.proofs.Powers.+place.Goals as goal

pub place-requires : goal.place-requires
place-requires t c =
    let i = c.loop-a in
    (omega (arith, tail_length i.pos, c.decreases), ready_next c.requires i.a (omega arith) (omega arith))

pub returns-then-place : goal.returns-then-place
returns-then-place t c power l =
    let i = c.loop-a in
    let p = c.place in
    place_hit l i.a c.args.u (length c.args.pos.now) i.pos p.new.pos p.result (omega arith) (omega arith) (omega arith) _ (omega arith) (p.ensures power l) c.if-place.true
    ∙ sym (i.invariant power l)

pub loop-a-preserved : goal.loop-a-preserved
loop-a-preserved t c power l =
    let i = c.loop-a in
    let p = c.place in
    i.invariant power l
    ∙ place_miss l i.a c.args.u (length c.args.pos.now) i.pos p.new.pos p.result (omega arith) (omega arith) (omega arith) _ (omega arith) (p.ensures power l) c.if-place.false

pub returns-after-loop-a : goal.returns-after-loop-a
returns-after-loop-a t c power l =
    let n = length c.args.pos.now in
    let i = c.loop-a in
    let e : n ≡ suc (n - 1) = omega arith in
    sym
    (i.invariant power l
    ∙ ap (λ (k : ℕ). first_from power (length c.args.self.powers.now) k i.a c.args.u) e
    ∙ first_from_past power (length c.args.self.powers.now) (n - 1) i.a c.args.u (omega arith))
