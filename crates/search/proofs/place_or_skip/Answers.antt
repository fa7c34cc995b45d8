-- `place_or_skip` places positions unless parity says that there are none to place.
use Rattle.std.proofs.Common.{◌≡◌, true, length, sym, ◌∙◌}
use Rattle.search.proofs.ParityLaws.{none_placed}
use Rattle.search.proofs.place_or_skip.Goals as goal

pub returns-else-not-ruled_out : goal.returns-else-not-ruled_out
returns-else-not-ruled_out c power t =
    let a = c.args in
    let out : c.ruled_out.result ≡ true = c.if-not-ruled_out.false in
    rw out (sym (none_placed a.generator (length a.pos.now) a.u (sym c.ruled_out.ensures ∙ out) t c.requires.1))
