-- `total_of` equals its definition: no running total is above that of all, which is small.
use native.Mathlib.Omega.{arith}
use Rattle.packet.specs.Packet.{Bytes}
use Rattle.checksum.proofs.SumLaws.{total_bound}
use Rattle.weighing.proofs.total_of.Goals as goal

pub overflow_add-t : goal.overflow_add-t
overflow_add-t c =
    let b : Bytes c.args.s.now = λ i. omega (arith, c.type_inv.s i) in
    omega (arith, total_bound c.args.s.now b, c.loop-i.invariant)
