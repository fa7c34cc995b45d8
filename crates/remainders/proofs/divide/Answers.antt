-- `divide` gives the remainder of the bytes behind a register. Invariant: r is that of the bytes read.
use native.Mathlib.Omega.{arith}
use Rattle.remainders.proofs.DivideLaws.{divided_lt, divided_none, divided_more}
use Rattle.remainders.proofs.divide.Goals as goal

pub loop-b-init : goal.loop-b-init
loop-b-init c = divided_none c.args.g c.requires.0 c.args.register c.args.packet.now c.requires.1

pub append-r-requires : goal.append-r-requires
append-r-requires c = (c.requires.0, divided_lt c.args.g c.requires.0 c.args.register c.args.packet.now c.loop-b.b-index c.loop-b.invariant)

pub loop-b-preserved : goal.loop-b-preserved
loop-b-preserved c =
    divided_more c.args.g c.requires.0 c.args.register c.args.packet.now c.loop-b.b-index (λ k. omega (arith, c.type_inv.packet k)) (omega arith) c.loop-b.invariant c.append-r.ensures
