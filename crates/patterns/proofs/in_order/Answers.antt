-- `in_order` compares tuples: the counts, then the spans, then the positions.
use mathlib.Core.Path.{◌∙◌}
use Rattle.patterns.proofs.CompareLaws.{before_tuples}
use Rattle.patterns.proofs.in_order.Goals as goal

pub returns : goal.returns
returns c = c.lt.ensures ∙ before_tuples c.args.p.now c.args.q.now c.span_of.ensures c.span_of-2.ensures
