-- `more_between` goes on with what is between the ends, by its positions.
use native.Mathlib.Omega.{arith}
use Rattle.base.proofs.ListLaws.{ascending_from}
use Rattle.spans.proofs.FrameLaws.{cut, put_framed}
use Rattle.spans.proofs.BetweenLaws.{between_finds}
use Rattle.spans.proofs.more_between.Goals as goal

pub left-v-requires : goal.left-v-requires
left-v-requires c =
    let k = cut c.args.pos.now c.requires.2 c.requires.1 in
    (c.requires.0, omega (arith, k.apart, k.below), k.below)

pub below-requires : goal.below-requires
below-requires c = let k = cut c.args.pos.now c.requires.2 c.requires.1 in omega (arith, k.below)

pub resume-requires : goal.resume-requires
resume-requires c =
    let k = cut c.args.pos.now c.requires.2 c.requires.1 in
    (c.below.ensures.ready 0 c.left-v.result (omega arith) (c.left-v.ensures.ready 0 (omega arith)), rw c.below.ensures.ends (ascending_from 0 (omega arith) k.ascends))

pub returns : goal.returns
returns c power t =
    let m = c.resume in
    let ys = m.new.pos in
    let q = c.args.pos.now in
    let k = cut q c.requires.2 c.requires.1 in
    rw (put_framed q ys (omega (arith, m.auto.pos, k.counts, c.requires.1)))
    (between_finds power c.args.u k _ _ c.below.ensures.ends (c.left-v.ensures.known power t) m.result ys (m.ensures power (c.below.ensures.known power t)))
