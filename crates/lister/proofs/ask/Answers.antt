-- `ask` begins the whole list where no condition applies.
use Rattle.std.proofs.Common.{◌≡◌, refl, sym, ◌+◌, length, arith}
use Rattle.base.proofs.JudgeLaws.{let_through}
use Rattle.patterns.proofs.FollowLaws.{remaining_start}
use Rattle.lines.specs.Text.{refused_line}
use Rattle.lister.specs.Printed.{list_conditions, list_text}
use Rattle.lister.specs.Turns.{whole_list}
use Rattle.lister.proofs.ask.Goals as goal

pub returns-in-Ok : goal.returns-in-Ok
returns-in-Ok c =
    let r = c.args.query in
    let list = whole_list r in
    let all = remaining_start list in
    let none : 0 + length list ≡ length list = omega arith in
    record {
      text = rw (all, none) (sym (let_through (list_conditions r.generator r.bits r.limit r.syndrome) c.judge_list.ensures c.in-Ok.is refused_line (list_text list)));
      sound = record { clear = sym c.in-Ok.ensures; fits = refl; counted = rw (all, none) };
    }
