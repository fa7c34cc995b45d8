-- What was printed goes on by what the turn wrote.
use Rattle.std.proofs.Common.{◌++◌, rules, take, sym, ap, ◌∙◌, append_assoc}
use Rattle.std.proofs.KnownBytes.{Appends-trans}
use Rattle.lister.specs.Turns.{text_due}
use Rattle.streams.proofs.StreamLaws.{wrote_behind, wrote_before, on_err, on_err_then}
use Rattle.list.proofs.print_due.Goals as goal

pub loop-n-preserved : goal.loop-n-preserved
loop-n-preserved g c =
    let turn = c.in-More.ensures in
    let (printed, split, moved) = c.loop-n.invariant.4 in
    let text = take c.in-More.n c.write_next.new.text in (
      turn.3,
      turn.4,
      search rules,
      search rules,
      (
        printed ++ text,
        split ∙ ap (λ l. printed ++ l) turn.0 ∙ sym (append_assoc printed text (text_due c.in-More.rest)),
        Appends-trans _ _ _ _ _ moved c.in_ok-write_all-in-More.ensures.ok,
      ),
    )

pub returns-in-Last-clause-err : goal.returns-in-Last-clause-err
returns-in-Last-clause-err g c =
    let (printed, split, moved) = c.loop-n.invariant.4 in
    let last = split ∙ ap (λ l. printed ++ l) c.in-Last.ensures.0 in
    on_err_then c.write_all.result (wrote_behind _ _ _ _ _ _ last moved) c.write_all.ensures.err

pub returns-in_err-write_all-in-More-clause-err : goal.returns-in_err-write_all-in-More-clause-err
returns-in_err-write_all-in-More-clause-err g c =
    let turn = c.in-More.ensures in
    let (printed, split, moved) = c.loop-n.invariant.4 in
    let text = take c.in-More.n c.write_next.new.text in
    on_err c.from_residual.result
    (wrote_behind _ _ _ _ _ _ split moved (wrote_before _ _ _ text (text_due c.in-More.rest) turn.0 c.in_err-write_all-in-More.ensures.err))
