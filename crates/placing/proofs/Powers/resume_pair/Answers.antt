-- `resume_pair` finds the first set of two that comes after the given one: with the same first position, or a later.
use Rattle.std.proofs.Common.{Some, None, get_or, sym, ap, ◌∙◌, arith}
use Rattle.placing.specs.Placing.{starts}
use Rattle.placing.proofs.NearestLaws.{ready_next}
use Rattle.placing.proofs.TailLaws.{head_below, second_below, pair_after, set_second}
use Rattle.placing.proofs.Powers.resume_pair.Goals as goal

pub nearest-requires : goal.nearest-requires
nearest-requires c =
    let k = second_below c.requires.2 (omega arith) in
    ready_next c.requires.0 (get_or c.args.pos.now 0 0) (head_below c.requires.2 (omega arith)) (omega arith)

pub returns-in-Some : goal.returns-in-Some
returns-in-Some c power t =
    let pos = c.args.pos.now in
    let n = c.in-Some.ensures in
    ap starts (set_second pos c.in-Some.b c.requires.1)
    ∙ sym (pair_after t c.args.u pos c.requires.1 c.requires.2 (omega arith) (Some c.in-Some.b) (n.0, n.1 power t))

pub returns : goal.returns
returns c power t =
    c.pair.ensures power t
    ∙ sym (pair_after t c.args.u c.args.pos.now c.requires.1 c.requires.2 (omega arith) None (c.in_default.ensures power t))
