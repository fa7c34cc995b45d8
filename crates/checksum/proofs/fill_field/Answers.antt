-- `fill_field` stamps: the field cleared, the range summed, the field written.
use native.Mathlib.Omega.{arith}
use Rattle.checksum.proofs.StampLaws.{stamp_steps}
use Rattle.checksum.proofs.fill_field.Goals as goal

pub returns : goal.returns
returns c =
    stamp_steps _ c.sum-rest.result _ c.as_written.result _ c.write_field.new.packet _ c.write_field.ensures c.sum-rest.ensures (omega arith)
    c.as_written.ensures c.write_field-2.ensures
