-- `conclude` mends what is repaired: its positions lie within the packet.
use mathlib.Core.Path.{sym}
use Rattle.verdicts.proofs.VerdictLaws.{repaired_within}
use Rattle.verdicts.proofs.conclude.Goals as goal

pub mend-requires : goal.mend-requires
mend-requires c =
    let s = c.args.settings in
    (c.requires.2, repaired_within s.crc s.check s.limit c.args.packet.now _ (sym c.in-Repaired.ensures))
