-- `back` halves what is even, and what is odd with the generator added, as its law has it.
use Rattle.poly.proofs.BackLaws.{back, back_lt, back_leaves}
use Rattle.poly.proofs.back.Goals as goal

pub returns : goal.returns
unfolding back
returns c =
    let a = c.args in
    let d = c.requires.0.divisor in
    (back_lt a.g.degree a.g.coefficients d a.t c.requires.1, back_leaves a.g.degree a.g.coefficients d a.t c.requires.1)
