-- `flip_bit` flips one bit of one byte.
use mathlib.Core.Path.{◌≡◌, ◌∙◌}
use Prim.Native.Nat.{ℕ, ◌*◌, ◌%◌, ◌^◌}
use native.Mathlib.Omega.{arith}
use native.Mathlib.Nat.{one-mul}
use lib.Pow.{shl_exact}
use Rattle.packet.proofs.FlipLaws.{flip_is}
use Rattle.packet.proofs.flip_bit.Goals as goal

pub returns : goal.returns
returns c =
    let p : ℕ = c.args.p in
    let e : 1 * 2 ^ (p % 8) % 2 ^ 8 ≡ 2 ^ (p % 8) = shl_exact 1 (p % 8) 8 (omega arith) (omega arith) ∙ one-mul (2 ^ (p % 8)) in
    rw (e, flip_is c.args.packet.now p)
