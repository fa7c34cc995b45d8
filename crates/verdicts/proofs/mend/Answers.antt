-- `mend` copies the packet and flips the pattern's positions in the copy.
use Rattle.verdicts.proofs.mend.Goals as goal

pub flip_bits-requires : goal.flip_bits-requires
flip_bits-requires c = rw (c.copy_to.ensures, c.as_slice.ensures, c.of-held.ensures) c.requires.1
