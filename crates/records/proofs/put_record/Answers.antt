-- `put_record` writes the record byte by byte. The invariant: storing what is left of the positions, from `to` on, gives
-- what storing them all at the start would have given.
use native.Mathlib.Omega.{arith}
use mathlib.Core.Path.{refl, sym, ◌∙◌}
use Rattle.records.proofs.PageLaws.{record_length}
use Rattle.records.proofs.RecordLaws.{put_turn, put_done, put_whole}
use Rattle.records.proofs.put_record.Goals as goal

pub loop-p-preserved : goal.loop-p-preserved
loop-p-preserved c =
    let l = c.loop-p in
    let fits = c.type_inv.pos l.p-index in
    rw c.to_be_bytes.ensures (omega arith, put_turn c.args.pos.now l.out _ l.to l.p-index (omega arith) (omega arith) refl l.invariant.1)

pub returns : goal.returns
returns c =
    let l = c.loop-p in
    let ps = c.args.pos.now in
    record {
      content = sym (put_done ps l.out l.to l.p-index (omega arith)) ∙ l.invariant.1 ∙ put_whole ps c.args.out.now c.args.at (omega arith);
      behind = omega (arith, record_length ps);
    }
