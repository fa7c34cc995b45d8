-- `flip_bits` flips position after position, each below the length.
use mathlib.Core.Path.{sym, ◌∙◌}
use native.Mathlib.Omega.{arith}
use Rattle.base.proofs.ListLaws.{all_at}
use Rattle.packet.proofs.FlipLaws.{flip-length, flips_turn, flips_end}
use Rattle.packet.proofs.flip_bits.Goals as goal

pub flip_bit-requires : goal.flip_bit-requires
flip_bit-requires c = omega (arith, all_at c.requires c.loop-p.p-index (omega arith), c.loop-p.invariant.long)

pub loop-p-preserved : goal.loop-p-preserved
loop-p-preserved c =
    let l = c.loop-p in
    rw (c.flip_bit.ensures) (record {
      long = flip-length _ _ ∙ l.invariant.long;
      whole = flips_turn l.packet c.args.pos.now l.p-index (omega arith) ∙ l.invariant.whole;
    })

pub returns : goal.returns
returns c = let l = c.loop-p in sym (flips_end l.packet c.args.pos.now l.p-index (omega arith)) ∙ l.invariant.whole
