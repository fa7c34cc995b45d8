-- `resume_or_skip` goes on from positions unless parity says that none of their count can follow.
use Rattle.std.proofs.Common.{◌≡◌, true, length, refl, sym, ◌∙◌}
use Rattle.search.proofs.ParityLaws.{none_after}
use Rattle.search.proofs.resume_or_skip.Goals as goal

pub returns-then-ruled_out : goal.returns-then-ruled_out
returns-then-ruled_out c power t =
    let a = c.args in
    let out : c.ruled_out.result ≡ true = c.if-ruled_out.true in
    sym (none_after a.generator (length a.pos.now) a.u (sym c.ruled_out.ensures ∙ out) t c.requires.2 a.pos.now refl)
