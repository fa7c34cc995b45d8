-- `first_two` joins the two bytes.
use native.Mathlib.Omega.{arith}
use Rattle.packet.proofs.PacketLaws.{polynomial_two}
use Rattle.remainders.proofs.first_two.Goals as goal

pub returns : goal.returns
returns c = let s = c in omega (arith, polynomial_two s.args.packet.now s.requires)
