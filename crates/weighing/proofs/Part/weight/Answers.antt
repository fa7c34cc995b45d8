-- `weight` shifts the byte's share to the bit's place, within 64 bits.
use mathlib.Core.Path.{◌≡◌, ap, ◌∙◌}
use Prim.Native.Nat.{ℕ, ◌*◌, ◌%◌, ◌^◌, ◌≤◌}
use native.Mathlib.Omega.{arith}
use native.Mathlib.Nat.{mul-le-mul}
use lib.Pow.{shl_exact, pow_mono}
use Rattle.weighing.specs.Totals.{weight}
use Rattle.weighing.proofs.Part.weight.Goals as goal

pub returns : goal.returns
unfolding weight
returns c =
    let p : ℕ = c.args.p in
    let r : ℕ = c.share-share.result in
    let e : r * 2 ^ (p % 8) % 2 ^ 64 ≡ r * 2 ^ (p % 8) = shl_exact 9 (p % 8) 64 (omega (arith, c.share-share.ensures.1)) (omega arith) in
    let b : r * 2 ^ (p % 8) ≤ 256 * 2 ^ 7 = mul-le-mul c.share-share.ensures.1 (pow_mono {i = p % 8} {j = 7} (omega arith)) in
    (e ∙ ap (λ (x : ℕ). x * 2 ^ (p % 8)) c.share-share.ensures.0, omega (arith, e, b))
