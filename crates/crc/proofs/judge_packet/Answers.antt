-- The generator that was made is fit.
use Rattle.poly.proofs.NewLaws.{new_fit}
use Rattle.crc.proofs.judge_packet.Goals as goal

pub unfit_values-requires : goal.unfit_values-requires
unfit_values-requires c = new_fit c.args.numbers.generator c.in_ok-g.ensures
