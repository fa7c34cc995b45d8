-- `Generator::ccitt` is the generator of 11021h: its degree is computed.
use Rattle.std.proofs.Common.{refl}
use Rattle.poly.specs.Polynomial.{degree, degree_in}
use Rattle.poly.proofs.Generator.ccitt.Goals as goal

pub returns : goal.returns
unfolding degree degree_in
returns c = refl
