-- `Generator::of` takes the degree from the leading zeros; that of 0 is 0 by definition.
use Rattle.std.proofs.Common.{arith}
use Rattle.poly.specs.Polynomial.{degree, degree_in}
use Rattle.poly.proofs.DegreeLaws.{degree-leading}
use Rattle.poly.proofs.Generator.of.Goals as goal

pub returns-then-coefficients-eq0 : goal.returns-then-coefficients-eq0
unfolding degree degree_in
returns-then-coefficients-eq0 c = simp c.if-coefficients-eq0.true

pub returns : goal.returns
returns c = simp (degree-leading c.args.coefficients (omega arith) c.ranges.coefficients.fits)
