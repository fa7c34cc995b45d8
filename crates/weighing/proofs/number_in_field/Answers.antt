-- `number_in_field` reads the word at the field, where there is one.
use mathlib.Core.Path.{sym, ◌∙◌}
use native.Mathlib.Omega.{arith}
use Rattle.weighing.proofs.WeighedLaws.{no_field, some_field, word_in_field}
use Rattle.weighing.proofs.number_in_field.Goals as goal

pub returns-then-to-from : goal.returns-then-to-from
returns-then-to-from c = sym (no_field _ _ (omega (arith, c.if-to-from.true)))

pub returns : goal.returns
returns c = c.word_of.ensures ∙ word_in_field c.args.check.field c.args.packet.now ∙ sym (some_field _ _ (λ e. omega (arith, e, c.if-to-from.false)))
