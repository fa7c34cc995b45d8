-- `begin` judges what was read; of an input that was longer than the buffer, more than the longest line is there, and it is bad.
use mathlib.Core.Path.{ap, ◌∙◌}
use lib.ListN.{length}
use Rattle.lister.specs.Turns.{printed}
use Rattle.lister.proofs.PrintedLaws.{printed-first}
use Rattle.lister.proofs.begin.Goals as goal

pub returns : goal.returns
returns c =
    let judged = c.judge_input.ensures in
    record {
      text = λ input read. judged.text ∙ ap printed read ∙ printed-first (length c.args.buffer.now) input c.requires.0;
      sound = judged.sound;
    }
