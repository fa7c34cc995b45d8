-- `search_next` goes on among the sets of the given one's count, and then rises through the counts above it.
use Rattle.std.proofs.Common.{ℕ, ◌++◌, length, drop, refl, arith, rules}
use lib.Seq.{length_front}
use Rattle.search.proofs.RisingLaws.{risen_found}
use Rattle.search.proofs.ToldLaws.{next_same, next_above}
use Rattle.search.proofs.search_next.Goals as goal

pub returns-then-resume_or_skip : goal.returns-then-resume_or_skip
returns-then-resume_or_skip c power t =
    let a = c.args in
    let r = c.resume_or_skip in
    next_same power (length a.powers.powers.now) (length a.pos.now) a.syndrome a.count a.pos.now r.new.pos r.result refl c.requires.1 r.auto.pos (r.ensures power t) c.if-resume_or_skip.true

pub returns : goal.returns
returns c power t =
    let a = c.args in
    let r = c.resume_or_skip in
    let l : ℕ = length a.powers.powers.now in
    let w = length_front a.pos.now r.new.pos a.count r.auto.pos in
    let f = risen_found power l a.syndrome (λ xs s ys k. rw (← k.shows, ← k.leaves) (search rules)) c.rise.ensures (rw w (omega (arith, c.requires.1))) in
    next_above power l (length a.pos.now) a.syndrome a.count a.pos.now r.new.pos r.result refl c.requires.1 r.auto.pos (r.ensures power t) c.if-resume_or_skip.false
    c.rise.result c.rise.new.pos (r.new.pos ++ drop a.count a.pos.now) w _ (omega arith) f.0 f.1
