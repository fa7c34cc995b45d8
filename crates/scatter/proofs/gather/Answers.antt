-- `gather` is `scatter` with rows and columns exchanged.
use mathlib.Core.Path.{◌∙◌}
use native.Mathlib.Omega.{arith}
use Rattle.scatter.proofs.ExchangeLaws.{call_exchanged, output_exchanged}
use Rattle.scatter.proofs.gather.Goals as goal

pub returns : goal.returns
returns c =
    let done = c.scatter.ensures in
    let a = c.args in
    let left = done.output ∙ output_exchanged {r = a.rows} {c = a.columns} a.input.now a.output.now (omega arith) (omega arith) in
    record { answer = done.answer ∙ call_exchanged a.input.now a.output.now (omega arith) (omega arith); output = left }
