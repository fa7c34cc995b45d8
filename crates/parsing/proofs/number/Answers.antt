-- `number` reads as `read` does.
use Rattle.std.proofs.Common.{sym, ◌+◌, ◌-◌, ◌∙◌, arith, add-one}
use Rattle.std.proofs.lemmas.List.{take_rest}
use Rattle.parsing.proofs.ReadLaws.{close_read, digit_read_on}
use Rattle.parsing.proofs.number.Goals as goal

pub loop-i-preserved : goal.loop-i-preserved
loop-i-preserved c =
    let d = c.in_ok-value-2.ensures in
    let l = c.loop-i in (
      omega arith,
      rw (add-one (l.i + 1)) (omega (arith, d)),
      cc (digit_read_on c.args.close (8 - l.i) l.value c.in_ok-first.rest.now l.i c.loop-i-test.true c.if-c-close.false (8 - (l.i + 1)) (omega arith) d.0, d.1),
    )

pub returns-then-c-close : goal.returns-then-c-close
returns-then-c-close c =
    let l = c.loop-i in
    rw take_rest (sym l.invariant.2 ∙ close_read c.args.close (8 - l.i) l.value c.in_ok-first.rest.now l.i c.loop-i-test.true c.if-c-close.true)
