-- `single` places the nearest position, which is the first set of one.
use Rattle.std.proofs.Common.{Some, None, length, sym, ap, ◌∙◌, arith}
use Rattle.placing.specs.Placing.{starts}
use Rattle.placing.proofs.NearestLaws.{first_alone, set_one}
use Rattle.placing.proofs.Powers.single.Goals as goal

pub returns-in-Some : goal.returns-in-Some
returns-in-Some c power t =
    let a = c.args in
    let n = c.in-Some.ensures in
    ap starts (set_one a.pos.now c.in-Some.p c.requires.1) ∙ sym (first_alone power (length a.self.powers.now) a.lo a.u (omega arith) (Some c.in-Some.p) (n.0, n.1 power t))

pub returns-in-None : goal.returns-in-None
returns-in-None c power t =
    let a = c.args in
    sym (first_alone power (length a.self.powers.now) a.lo a.u (omega arith) None (c.in-None.ensures power t))
