-- `left` takes two powers out of a sum: what is left is a remainder too.
use Rattle.spans.proofs.PartLaws.{ready_left, left_known}
use Rattle.spans.proofs.left.Goals as goal

pub returns : goal.returns
returns c =
    let s = c.args in
    record {
      ready = λ from h. ready_left c.requires.0 s.a s.b c.requires.1 c.requires.2 h;
      known = λ power t. left_known t s.u s.a s.b c.requires.1 c.requires.2;
    }
