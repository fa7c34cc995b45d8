-- `divide_by_ccitt` gives what `divide` gives, by ccitt. Invariant: r is the remainder of the bytes read.
use native.Mathlib.Omega.{arith}
use Rattle.poly.specs.Generators.{ccitt}
use Rattle.ccitt.proofs.ByteLaws.{ccitt-degree, ccitt_fit}
use Rattle.remainders.proofs.DivideLaws.{divided_none, divided_more}
use Rattle.remainders.proofs.divide_by_ccitt.Goals as goal

pub loop-b-init : goal.loop-b-init
loop-b-init c = divided_none ccitt ccitt_fit c.args.register c.args.packet.now (rw ccitt-degree c.ranges.register.fits)

pub loop-b-preserved : goal.loop-b-preserved
loop-b-preserved c =
    divided_more ccitt ccitt_fit c.args.register c.args.packet.now c.loop-b.b-index (λ k. omega (arith, c.type_inv.packet k)) (omega arith) c.loop-b.invariant c.append-r.ensures
