-- `next_or_skip` finds what `next_of_count` finds, for a count that is ruled out has none.
use mathlib.Core.Path.{sym, ◌∙◌}
use lib.ListN.{length}
use Rattle.ordered.proofs.RiseLaws.{none_summing}
use Rattle.ordered.proofs.next_or_skip.Goals as goal

pub returns-else-not-ruled_out : goal.returns-else-not-ruled_out
returns-else-not-ruled_out c power t =
    rw c.if-not-ruled_out.false
    (λ x m. none_summing c.args.generator (length c.args.pos.now) c.args.u (sym c.ruled_out.ensures ∙ c.if-not-ruled_out.false) t c.requires.2 x m.0)
