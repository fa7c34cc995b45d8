-- `resume` finds the first set of as many positions that comes after the given one. It ends since each call has one
-- position less to go on from.
use Rattle.std.proofs.Common.{get_or, ◌∙◌, arith}
use Rattle.placing.proofs.NearestLaws.{ready_next}
use Rattle.placing.proofs.TailLaws.{tail_length, head_below, tail_ascends, resume_hit, resume_miss}
use Rattle.placing.proofs.Powers.+resume.Goals as goal

pub resume-requires : goal.resume-requires
resume-requires t c =
    let h = head_below c.requires.1 (omega arith) in (
      omega (arith, tail_length c.args.pos.now, c.decreases),
      (ready_next c.requires.0 (get_or c.args.pos.now 0 0) h (omega arith), tail_ascends c.requires.1 (omega arith)),
    )

pub returns-then-resume : goal.returns-then-resume
returns-then-resume t c power l =
    let r = c.resume in
    resume_hit l c.args.u c.args.pos.now r.new.pos r.result c.requires.1 (omega arith) r.auto.pos (r.ensures power l) c.if-resume.true

pub returns-else-resume : goal.returns-else-resume
returns-else-resume t c power l =
    let r = c.resume in
    c.place.ensures power l
    ∙ resume_miss l c.args.u c.args.pos.now r.new.pos r.result c.requires.1 (omega arith) r.auto.pos (r.ensures power l) c.if-resume.false
