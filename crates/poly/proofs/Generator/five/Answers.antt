-- `Generator::five` is the generator of 53: its degree is computed.
use Rattle.std.proofs.Common.{refl}
use Rattle.poly.specs.Polynomial.{degree, degree_in}
use Rattle.poly.proofs.Generator.five.Goals as goal

pub returns : goal.returns
unfolding degree degree_in
returns c = refl
