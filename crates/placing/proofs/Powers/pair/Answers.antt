-- `pair` finds the first set of two. The loop's invariant: no set of two starts between `lo` and `a`, so the first
-- from `lo` on is the first from `a` on.
use Rattle.std.proofs.Common.{Some, None, length, sym, ap, ◌∙◌, arith}
use Rattle.placing.specs.Placing.{starts}
use Rattle.placing.proofs.HeadLaws.{first_from_past}
use Rattle.placing.proofs.NearestLaws.{pair_turn, ready_next, set_two}
use Rattle.placing.proofs.Powers.pair.Goals as goal

pub nearest-requires : goal.nearest-requires
nearest-requires c = ready_next c.requires.0 c.loop-a.a (omega arith) (omega arith)

pub returns-in-Some : goal.returns-in-Some
returns-in-Some c power t =
    let i = c.loop-a in
    let n = c.in-Some.ensures in
    ap starts (set_two i.pos i.a c.in-Some.b (omega arith))
    ∙ sym (i.invariant power t ∙ pair_turn t i.a c.args.u (omega arith) (omega arith) (Some c.in-Some.b) (n.0, n.1 power t))

pub loop-a-preserved : goal.loop-a-preserved
loop-a-preserved c power t =
    let i = c.loop-a in
    i.invariant power t ∙ pair_turn t i.a c.args.u (omega arith) (omega arith) None (c.in_default.ensures power t)

pub returns : goal.returns
returns c power t =
    let l = length c.args.self.powers.now in
    sym (c.loop-a.invariant power t ∙ first_from_past power l 1 c.loop-a.a c.args.u (omega arith))
